-- Checks of operands, by their numbers.
use Rattle.std.proofs.Common.{◌≡◌, ℕ, zero, suc, ◌+◌, ◌<◌, ◌≤◌, List, [], ◌∷◌, ◌++◌, map, length, drop, get_or, refl, sym, ap, ◌∙◌, append_assoc, append-nil}
use Rattle.std.proofs.lemmas.List.{at_drop_more, at_drop_all}
use Rattle.typed_prog.specs.declared.tree.Value.{Value}
use Rattle.typed_prog.specs.Tree as t
use Rattle.typed_prog.specs.View.{view_value, view_values}
use Rattle.c_runs.specs.Program.{Variable}
use Rattle.c_runs.specs.Checks as c
use Rattle.check_lists.specs.declared.checks.Check.{Check}
use Rattle.check_lists.specs.View.{view_checks, under, Added}
use Rattle.check_lists.proofs.Adding.{map_append}

-- ---- at the end of a longer way

longer_is : (way : List ℕ) (k : ℕ) (xs : List c.Check) → map (under (way ++ k ∷ [])) xs ≡ map (under way) (map (c.in_operand k) xs)
longer_is way k [] = refl
longer_is way k (x ∷ xs) =
    let at : List ℕ → c.Check = λ w. record x { way = w } in
    ap (λ w. at w ∷ map (under (way ++ k ∷ [])) xs) (append_assoc way (k ∷ []) x.way) ∙ ap (λ ys. at (way ++ k ∷ x.way) ∷ ys) (longer_is way k xs)

pub in_longer : (old new : List Check) (way longer : List ℕ) (k : ℕ) (xs : List c.Check) → longer ≡ way ++ k ∷ [] → Added old new longer xs → Added old new way (map (c.in_operand k) xs)
unfolding Added
in_longer old new way longer k xs e h =
    h ∙ ap (λ w. view_checks old ++ map (under w) xs) e ∙ ap (λ ys. view_checks old ++ ys) (longer_is way k xs)

-- ---- operands from a number on

numbered : List Variable → ℕ → t.Values → List c.Check
numbered xs k t.stop = []
numbered xs k (t.more e es) = map (c.in_operand k) (c.checks_of xs e) ++ numbered xs (suc k) es

later_operand : (k : ℕ) (xs : List c.Check) → map c.later (map (c.in_operand k) xs) ≡ map (c.in_operand (suc k)) xs
later_operand k [] = refl
later_operand k (x ∷ xs) = ap (λ ys. c.in_operand (suc k) x ∷ ys) (later_operand k xs)

later_numbered : (xs : List Variable) (k : ℕ) (es : t.Values) → map c.later (numbered xs k es) ≡ numbered xs (suc k) es
unfolding numbered
later_numbered xs k t.stop = refl
later_numbered xs k (t.more e es) =
    map_append c.later (map (c.in_operand k) (c.checks_of xs e)) (numbered xs (suc k) es)
    ∙ ap (λ zs. zs ++ map c.later (numbered xs (suc k) es)) (later_operand k (c.checks_of xs e))
    ∙ ap (λ zs. map (c.in_operand (suc k)) (c.checks_of xs e) ++ zs) (later_numbered xs (suc k) es)

numbered_all : (xs : List Variable) (es : t.Values) → c.all_checks xs es ≡ numbered xs 0 es
unfolding numbered
numbered_all xs t.stop = refl
numbered_all xs (t.more e es) =
    ap (λ zs. map (c.in_operand 0) (c.checks_of xs e) ++ map c.later zs) (numbered_all xs es)
    ∙ ap (λ zs. map (c.in_operand 0) (c.checks_of xs e) ++ zs) (later_numbered xs 0 es)

-- ---- a loop over operands

operands_of : List Value → t.Values
operands_of vs = t.values_of (view_values vs)

pub OperandsLeft : List Variable → (old now : List Check) (way : List ℕ) → List Value → (index number : ℕ) → Type 0
OperandsLeft xs old now way vs i n =
    view_checks now ++ map (under way) (numbered xs n (operands_of (drop i vs))) ≡ view_checks old ++ map (under way) (c.all_checks xs (operands_of vs))

pub first_operand : (xs : List Variable) (old : List Check) (way : List ℕ) (vs : List Value) → OperandsLeft xs old old way vs 0 0
unfolding OperandsLeft operands_of
first_operand xs old way vs = ap (λ zs. view_checks old ++ map (under way) zs) (sym (numbered_all xs (t.values_of (view_values vs))))

pub operand_turn : (xs : List Variable) (first old new : List Check) (way : List ℕ) (vs : List Value) (i n k : ℕ) (v : Value) → i < length vs → v ≡ get_or vs i v
    → Added old new way (map (c.in_operand n) (c.checks_of xs (view_value v))) → k ≡ suc n → OperandsLeft xs first old way vs i n → OperandsLeft xs first new way vs (i + 1) k
unfolding Added OperandsLeft operands_of numbered
operand_turn xs first old new way vs i n k v in_list is h e so_far =
    let here = map (c.in_operand n) (c.checks_of xs (view_value v)) in
    let rest = numbered xs (suc n) (operands_of (drop (i + 1) vs)) in
    ap (λ k. view_checks new ++ map (under way) (numbered xs k (operands_of (drop (i + 1) vs)))) e ∙ ap (λ zs. zs ++ map (under way) rest) h
    ∙ append_assoc (view_checks old) (map (under way) here) (map (under way) rest)
    ∙ ap (λ zs. view_checks old ++ zs) (sym (map_append (under way) here rest)
    ∙ ap (map (under way)) (sym (at_drop_more (λ vs. numbered xs n (operands_of vs)) vs i v in_list ∙ ap (λ z. numbered xs n (t.more (view_value z) (operands_of (drop (i + 1) vs)))) (sym is))))
    ∙ so_far

pub all_operands : (xs : List Variable) (first now : List Check) (way : List ℕ) (vs : List Value) (i n : ℕ) → length vs ≤ i → OperandsLeft xs first now way vs i n
    → Added first now way (c.all_checks xs (t.values_of (view_values vs)))
unfolding Added OperandsLeft operands_of numbered
all_operands xs first now way vs i n past_end so_far =
    sym (append-nil (view_checks now)) ∙ ap (λ zs. view_checks now ++ map (under way) zs) (sym (at_drop_all (λ vs. numbered xs n (operands_of vs)) vs i past_end)) ∙ so_far

pub ruleset operand_laws = (first_operand, operand_turn, all_operands)
