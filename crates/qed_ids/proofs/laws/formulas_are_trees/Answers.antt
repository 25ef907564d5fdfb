use Rattle.qed_terms.proofs.Injective.{formula_known}
use Rattle.qed_ids.proofs.laws.formulas_are_trees.Goals as goal

pub returns : goal.returns
returns c = formula_known
