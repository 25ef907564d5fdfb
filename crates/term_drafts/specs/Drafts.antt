-- Terms and formulas where there was memory for them.
use Rattle.std.specs.Prelude.{◌≡◌, Result, IfOk}
use Rattle.wp_base.specs.declared.memory.NoMemory.{NoMemory}
use Rattle.qed_terms.specs.declared.term.Term.{Term}
use Rattle.qed_terms.specs.declared.term.Formula.{Formula}
use Rattle.qed_terms.specs.Tree.{Tree}
use Rattle.qed_terms.specs.View.{term_tree, formula_tree}

pub record TermIs (draft : Result Term NoMemory) (t : Tree) : Type 0 where
  pub is : IfOk draft (λ made. term_tree made ≡ t)

pub record FormulaIs (draft : Result Formula NoMemory) (f : Tree) : Type 0 where
  pub is : IfOk draft (λ made. formula_tree made ≡ f)
