-- Formulas of a round, part by part, in later stores.
use Rattle.std.proofs.Common.{◌≡◌, ◌⊎◌, inl, inr, ◌||◌, ◌&&◌, ◌==◌, Bool, true, false, ℕ, List, [], ◌∷◌, ◌++◌, map, All, append_assoc, refl, sym, ◌∙◌, ap, eqb-true}
use Rattle.std.proofs.lemmas.List.{map-append}
use Rattle.std.proofs.lemmas.List.Elements.{All-append}
use Rattle.qed_terms.specs.Setting.{Setting, is_regular, are_regular_after}
use Rattle.qed_terms.specs.Store.{KeepsOlder}
use Rattle.qed_terms.specs.Tree.{Tree}
use Rattle.qed_terms.proofs.Kept.{kept_trees}
use Rattle.instance_rows.specs.Calls.{cases_of_call}
use Rattle.instance_rows.specs.Occurrences.{at_each}
use Rattle.instance_rows.specs.Round.{formulas}
use Rattle.instance_rounds.specs.Steps.{rows_in_order}
use Rattle.instance_rounds.specs.Formulas.{rows_of}

-- `long` has 32 or 64 bits in a regular setting
pub regular_width : (s : Setting) → is_regular s ≡ true → (s.long_bits ≡ 32) ⊎ (s.long_bits ≡ 64)
unfolding is_regular
regular_width s e = by (s.long_bits == 32) (s.long_bits == 64) (are_regular_after [] s.logic) refl refl e
  where
    by : (a b c : Bool) → s.long_bits == 32 ≡ a → s.long_bits == 64 ≡ b → (a || b) && c ≡ true → (s.long_bits ≡ 32) ⊎ (s.long_bits ≡ 64)
    by true b c p q e = inl (eqb-true s.long_bits 32 p)
    by false true c p q e = inr (eqb-true s.long_bits 64 q)
    by false false c p q e = absurd cc

-- ids of a later store behind others
pub put_behind : {Id : Type 0} (held held' : Id → Type 0) (tree tree' : Id → Tree) (out out' more : List Id) (front : List Tree) → KeepsOlder held held' tree tree' → All held more → map tree' out ≡ front
    → out' ≡ out ++ more → map tree' out' ≡ front ++ map tree more
put_behind held held' tree tree' out out' more front kept h e is =
    ap (map tree') is ∙ map-append tree' out more ∙ (λ i. e i ++ kept_trees held held' tree tree' more kept h i)

pub rows_made : (s : Setting) (ls ts offs fs : List Tree) → fs ≡ rows_in_order s.long_bits ls ts ++ offs → fs ≡ rows_of s ls ts offs
unfolding rows_of
rows_made s ls ts offs fs e = e

pub all_made : (s : Setting) (ls ts offs foralls fs : List Tree) → fs ≡ (rows_of s ls ts offs ++ at_each (cases_of_call s.logic) ts) ++ foralls → fs ≡ formulas s ls ts offs foralls
unfolding rows_of rows_in_order
all_made s ls ts offs foralls fs e =
    e ∙ append_assoc (rows_in_order s.long_bits ls ts ++ offs) (at_each (cases_of_call s.logic) ts) foralls
    ∙ append_assoc (rows_in_order s.long_bits ls ts) offs (at_each (cases_of_call s.logic) ts ++ foralls)
