use Rattle.qed_terms.specs.View.{formula_tree, view_setting}
use Rattle.qed_simplify.proofs.Laws.{means}
use Rattle.qed_simplify.proofs.normal_form.normal.Goals as goal

pub returns-clause-same : goal.returns-clause-same
returns-clause-same c = λ w suits env. means (view_setting c.args.world.now) (formula_tree c.args.formula.now) (formula_tree c.in_ok-normal.normal) c.in_ok-normal.ensures w suits env
