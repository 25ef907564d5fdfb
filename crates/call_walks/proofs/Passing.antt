-- Numbers of operands, in a list that is filled one by one.
use Rattle.std.proofs.Common.{◌≡◌, ℕ, zero, suc, ◌+◌, List, [], ◌∷◌, ◌++◌, map, refl, sym, ap, ◌∙◌, subst, arith}
use Rattle.std.proofs.lemmas.List.{map-append}
use Rattle.typed_prog.specs.Tree as t
use Rattle.qed_terms.specs.Meaning as sense
use Rattle.qed_terms.specs.declared.term.Term.{Term as Code}
use Rattle.qed_terms.specs.View.{term_tree}
use Rattle.walk_steps.specs.Walk.{Goal}
use Rattle.c_runs.specs.Program.{Facts, Variable}
use Rattle.value_terms.specs.Readings.{Term, number_term, term_at}
use Rattle.value_words.specs.OverSlots.{fill_term, leaf_reading}
use Rattle.value_terms.specs.Terms.{terms_of}
use Rattle.step_walks.specs.Walks.{Held, states}
use Rattle.walk_frames.specs.Evaluated.{EvaluatedAll}
use Rattle.call_walks.specs.Passed.{Passed}
use Rattle.call_walks.specs.View.{numbers_to}

pub numbers_next : (ts : List Term) (made : List Code) (x : Code) (n : ℕ) → map term_tree made ≡ numbers_to ts n → term_tree x ≡ number_term (term_at ts n) → map term_tree (made ++ x ∷ []) ≡ numbers_to ts (n + 1)
numbers_next ts made x n e f =
    let next : suc n ≡ n + 1 = omega arith in
    map-append term_tree made (x ∷ []) ∙ (λ i. e i ++ f i ∷ []) ∙ ap (numbers_to ts) next

pub passed : {m : sense.World} {bases : List (List ℕ)} {p : Facts} {xs : List Variable} {es : t.Values} {ts : List Term} {h q : Held} {fit fit' : List Goal → Type 0} (count : ℕ) (made : List Code)
    → EvaluatedAll m bases p xs es ts h q fit fit' → map term_tree made ≡ numbers_to ts count → Passed m bases p xs es count (map term_tree made) h q fit fit'
passed count made ev e = record { walks = ev.walks; arguments = e ∙ ap (λ us. numbers_to us count) ev.terms }
