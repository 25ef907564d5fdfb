-- The table of rules by heads.
use Rattle.std.proofs.Common.{◌≡◌, inl, inr, ℕ, List, [], ◌∷◌, ◌++◌, refl, ◌∙◌, ap}
use Rattle.std.specs.Prelude.{Option, Some, None}
use Rattle.qed_terms.specs.declared.head.Head.{Head}
use Rattle.qed_terms.specs.declared.head.Head.TheVariants as h
use Rattle.qed_terms.specs.declared.head.TermOp.{TermOp}
use Rattle.qed_terms.specs.declared.head.TermOp.TheVariants as op
use Rattle.qed_terms.specs.declared.head.FormOp.{FormOp}
use Rattle.qed_terms.specs.Setting.{Setting}
use Rattle.qed_terms.specs.Tree.{Tree, node, Trees, stop, more}
use Rattle.qed_calls.specs.Calls.{base_of}
use Rattle.qed_numbers.specs.Numbers.{number_at, long_number, long_rule, number_rules, number_step}
use Rattle.qed_numbers.specs.Laws.{Outcome}
use Rattle.qed_numbers.proofs.Outcomes.{numbers_answer}
use Rattle.qed_numbers.proofs.Tests.{either, as_num_is}
use Rattle.qed_memories.specs.Memories.{memory_rules, memory_step}
use Rattle.qed_rules.specs.Rules.{Rule, first_some, first_of_rules, sums_rule, choice_rule, less_rule, at_most_rule, equality_rule, implication_rule, equivalence_rule, negation_rule, at_junctions, flat_rule, absorbing_rule, units_rule, repeats_rule, opposites_rule, single_rule, at_quantifiers, empty_rule, single_range_rule, same_memory_rule, step}

abbrev pub last_rules : List Rule
last_rules = at_quantifiers empty_rule ∷ at_quantifiers single_range_rule ∷ same_memory_rule ∷ []

abbrev pub junction_rules : List Rule
junction_rules =
    at_junctions flat_rule ∷ at_junctions absorbing_rule ∷ at_junctions units_rule ∷ at_junctions repeats_rule ∷ at_junctions opposites_rule ∷ at_junctions single_rule ∷ last_rules

-- the rules of formulas that ask of no block
abbrev pub formula_rules : List Rule
formula_rules = less_rule ∷ at_most_rule ∷ equality_rule ∷ implication_rule ∷ equivalence_rule ∷ negation_rule ∷ junction_rules

-- the rules that are neither on numbers alone nor on memories
abbrev pub other_rules : List Rule
other_rules = sums_rule ∷ choice_rule ∷ formula_rules

-- one list of rules, and another behind it
first_of_both : (rs qs : List Rule) (head : Head) (ts : Trees) → first_of_rules (rs ++ qs) head ts ≡ first_some (first_of_rules rs head ts) (first_of_rules qs head ts)
first_of_both [] qs head ts = refl
first_of_both (r ∷ rs) qs head ts = ap (first_some (r head ts)) (first_of_both rs qs head ts) ∙ turned (r head ts)
  where
    turned : (o : Option Tree) → first_some o (first_some (first_of_rules rs head ts) (first_of_rules qs head ts)) ≡ first_some (first_some o (first_of_rules rs head ts)) (first_of_rules qs head ts)
    turned (Some a) = refl
    turned None = refl

or_none : (o : Option Tree) → first_some o None ≡ o
or_none (Some t) = refl
or_none None = refl

-- what a rule on numbers makes of an operator, or the one on `long`
abbrev pub ruled : ℕ → TermOp → Trees → Option Tree
ruled bits o ts = first_some (number_step (h.Term o) ts) (long_rule bits (h.Term o) ts)

long_answers : (bits : ℕ) (o : TermOp) (ts : Trees) (w : Tree) → long_rule bits (h.Term o) ts ≡ Some w → Outcome o ts w
long_answers bits (op.Wrap k) (more t stop) w e = let n = as_num_is (long_number bits k (number_at t)) w e in inl (n.0, n.2)
long_answers bits o ts w e = absurd cc

pub ruled_answers : (bits : ℕ) (o : TermOp) (ts : Trees) (w : Tree) → ruled bits o ts ≡ Some w → Outcome o ts w
ruled_answers bits o ts w k = elim (either (number_step (h.Term o) ts) (long_rule bits (h.Term o) ts) w k) [
  | inl e ↦ numbers_answer o ts w e
  | inr e ↦ long_answers bits o ts w e
]

-- an operator's form comes first, then the rules on numbers, then those on memories and tables
pub op_step : (set : Setting) (o : TermOp) (ts : Trees) → step set (node (h.Term o) ts) ≡ first_some (sums_rule (h.Term o) ts) (first_some (ruled set.long_bits o ts) (memory_step (h.Term o) ts))
op_step set o ts =
    let numbers = first_of_both number_rules (long_rule set.long_bits ∷ []) (h.Term o) ts ∙ ap (first_some (number_step (h.Term o) ts)) (or_none (long_rule set.long_bits (h.Term o) ts)) in
    ap (first_some (sums_rule (h.Term o) ts)) (first_of_both (number_rules ++ long_rule set.long_bits ∷ []) memory_rules (h.Term o) ts ∙ ap (λ p. first_some p (memory_step (h.Term o) ts)) numbers)

-- at a relation those on tables come first
pub form_step : (set : Setting) (o : FormOp) (ts : Trees) → step set (node (h.Form o) ts) ≡ first_some (memory_step (h.Form o) ts) (first_of_rules formula_rules (h.Form o) ts)
form_step set o ts = first_of_both memory_rules formula_rules (h.Form o) ts

-- and at a call the rule on calls alone
pub call_step : (set : Setting) (x : List ℕ) (ts : Trees) → step set (node (h.App x) ts) ≡ base_of set.logic x ts
call_step set x ts = or_none (base_of set.logic x ts)
