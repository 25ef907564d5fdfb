use Rattle.std.proofs.Common.{◌≡◌, sym, ap, subst}
use Rattle.qed_terms.specs.View.{formula_tree, view_setting}
use Rattle.qed_rules.specs.Rules.{step}
use Rattle.qed_simplify.specs.Normal.{Normal}
use Rattle.stored_normals.proofs.normal.formula_normal.Goals as goal

pub returns-clause-normal : goal.returns-clause-normal
returns-clause-normal g c = subst (λ t. Normal (step (view_setting c.args.world.now)) (formula_tree c.args.formula.now) t) (sym c.in_ok-made.ensures.stands) c.in_ok-found.ensures.normal
