-- A term that has to be an integer means one, and a formula a truth value.
use Rattle.std.proofs.Common.{◌≡◌, true, refl}
use Rattle.qed_terms.specs.declared.head.Head.TheVariants as h
use Rattle.qed_terms.specs.declared.head.TermOp.TheVariants as op
use Rattle.qed_terms.specs.declared.head.Sort.TheVariants as sort
use Rattle.qed_terms.specs.Tree.{Tree, node, head_of}
use Rattle.qed_terms.specs.Meaning.{World, Values, Whole, Truth, value, truth, meaning}
use Rattle.qed_linear.specs.Linear.{is_integer}
use Rattle.qed_rules.specs.Rules.{is_formula}

module _ (world : World) (env : Values) where
  pub integer_whole : (t : Tree) → is_integer (head_of t) ≡ true → meaning world env t ≡ Whole (value world env t)
  integer_whole (node (h.Num z) ts) k = refl
  integer_whole (node (h.Var x sort.Int) ts) k = refl
  integer_whole (node (h.Term op.Store) ts) k = absurd cc
  integer_whole (node (h.Term (op.Alloc layout)) ts) k = absurd cc
  integer_whole (node (h.Term op.Grow) ts) k = absurd cc
  integer_whole (node (h.Term o) ts) k = refl
  integer_whole (node h.Ite ts) k = refl
  integer_whole (node (h.App f) ts) k = refl
  integer_whole (node head ts) k = absurd cc

  pub formula_truth : (t : Tree) → is_formula (head_of t) ≡ true → meaning world env t ≡ Truth (truth world env t)
  formula_truth (node (h.Num z) ts) k = absurd cc
  formula_truth (node (h.Var x s) ts) k = absurd cc
  formula_truth (node (h.Term o) ts) k = absurd cc
  formula_truth (node h.Ite ts) k = absurd cc
  formula_truth (node (h.App f) ts) k = absurd cc
  formula_truth (node head ts) k = refl
