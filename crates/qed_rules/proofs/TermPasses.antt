-- The normal forms of terms by their variants.
use Rattle.std.proofs.Common.{◌≡◌, ℕ, true, false, ◌&&◌, List, map, refl, sym, ◌∙◌, ap}
use Rattle.std.specs.Prelude.{Option, Some, None}
use Rattle.qed_terms.specs.declared.head.Head.TheVariants as h
use Rattle.qed_terms.specs.declared.head.TermOp.{TermOp}
use Rattle.qed_terms.specs.declared.term.Term.{Term}
use Rattle.qed_terms.specs.declared.term.Term.TheVariants as t
use Rattle.qed_terms.specs.Tree.{Tree, Trees, node, trees_of, head_of}
use Rattle.qed_terms.specs.Order.{same}
use Rattle.qed_terms.specs.View.{term_tree}
use Rattle.qed_terms.proofs.Equations.{term_tree-Op}
use Rattle.qed_linear.specs.Linear.{is_integer, Lin, op_form, or_atom, of_lin}
use Rattle.qed_numbers.specs.Numbers.{first_some, long_rule, number_step}
use Rattle.qed_rules.specs.Rules.{then_some, chosen_arm, is_truth_constant}
use Rattle.qed_memories.specs.Passes.{memory_pass}
use Rattle.qed_rules.specs.Passes.{linear_term, by_rules, normal_op}
use Rattle.qed_linear.proofs.TermForms.{forms_of, to_lins_of}

-- what a rule on numbers makes, or the one on `long`
pub by_number : (bits : ℕ) (o : TermOp) (ts : Trees) (w : Tree) → Some w ≡ number_step (h.Term o) ts → Some w ≡ first_some (number_step (h.Term o) ts) (long_rule bits (h.Term o) ts)
by_number bits o ts w n = ap (λ p. first_some p (long_rule bits (h.Term o) ts)) n

pub by_long : (bits : ℕ) (o : TermOp) (ts : Trees) → None ≡ number_step (h.Term o) ts → long_rule bits (h.Term o) ts ≡ first_some (number_step (h.Term o) ts) (long_rule bits (h.Term o) ts)
by_long bits o ts n = ap (λ p. first_some p (long_rule bits (h.Term o) ts)) n

-- an operator over terms by that, and where no such rule changes it
pub ruled : (bits : ℕ) (o : TermOp) (ts : Trees) (w : Tree) → Some w ≡ first_some (number_step (h.Term o) ts) (long_rule bits (h.Term o) ts) → linear_term w ≡ normal_op bits o ts
ruled bits o ts w n = ap (λ p. by_rules p (memory_pass (h.Term o) ts) (node (h.Term o) ts)) n

pub not_ruled : (bits : ℕ) (o : TermOp) (ts : Trees) → None ≡ first_some (number_step (h.Term o) ts) (long_rule bits (h.Term o) ts) → by_rules None (memory_pass (h.Term o) ts) (node (h.Term o) ts) ≡ normal_op bits o ts
not_ruled bits o ts n = ap (λ p. by_rules p (memory_pass (h.Term o) ts) (node (h.Term o) ts)) n

-- by what the rules on memories and tables make of it, and where none changes it
pub remembered : (o : TermOp) (ts : Trees) (w : Tree) → Some w ≡ memory_pass (h.Term o) ts → w ≡ by_rules None (memory_pass (h.Term o) ts) (node (h.Term o) ts)
remembered o ts w n = ap (λ p. by_rules None p (node (h.Term o) ts)) n

pub not_remembered : (o : TermOp) (ts : Trees) → None ≡ memory_pass (h.Term o) ts → linear_term (node (h.Term o) ts) ≡ by_rules None (memory_pass (h.Term o) ts) (node (h.Term o) ts)
not_remembered o ts n = ap (λ p. by_rules None p (node (h.Term o) ts)) n

-- by its form, or where it has none
op_form_is : (o : TermOp) (ts : List Term) (g : Option Lin) → g ≡ op_form o (forms_of ts) → linear_term (node (h.Term o) (trees_of (map term_tree ts))) ≡ of_lin (or_atom g (node (h.Term o) (trees_of (map term_tree ts))))
op_form_is o ts g k = ap (λ f. of_lin (or_atom f (node (h.Term o) (trees_of (map term_tree ts))))) (ap (op_form o) (to_lins_of ts) ∙ sym k)

pub op_some : (o : TermOp) (ts : List Term) (g : Lin) → Some g ≡ op_form o (forms_of ts) → of_lin g ≡ linear_term (node (h.Term o) (trees_of (map term_tree ts)))
op_some o ts g k = sym (op_form_is o ts (Some g) k)

pub op_none : (o : TermOp) (ts : List Term) → None ≡ op_form o (forms_of ts) → term_tree (t.Op o ts) ≡ linear_term (node (h.Term o) (trees_of (map term_tree ts)))
op_none o ts k = term_tree-Op o ts ∙ sym (op_form_is o ts None k)

-- ---- the arms of a condition

pub arm_true : (c t u : Tree) → is_truth_constant true c ≡ true → chosen_arm (head_of c) t u ≡ then_some (is_integer (head_of t)) t
arm_true (node h.True ts) t u k = refl
arm_true c t u k = absurd cc

pub arm_false : (c t u : Tree) → is_truth_constant false c ≡ true → chosen_arm (head_of c) t u ≡ then_some (is_integer (head_of u)) u
arm_false (node h.False ts) t u k = refl
arm_false c t u k = absurd cc

pub arm_other : (c t u : Tree) → is_truth_constant true c ≡ false → is_truth_constant false c ≡ false → chosen_arm (head_of c) t u ≡ then_some (same t u && is_integer (head_of t)) t
arm_other (node h.True ts) t u k l = absurd cc
arm_other (node h.False ts) t u k l = absurd cc
arm_other c t u k l = refl
