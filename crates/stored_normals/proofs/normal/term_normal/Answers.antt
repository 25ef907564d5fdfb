use Rattle.std.proofs.Common.{◌≡◌, sym, ap, subst}
use Rattle.qed_terms.specs.View.{term_tree, view_setting}
use Rattle.qed_rules.specs.Rules.{step}
use Rattle.qed_simplify.specs.Normal.{Normal}
use Rattle.stored_normals.proofs.normal.term_normal.Goals as goal

pub returns-clause-normal : goal.returns-clause-normal
returns-clause-normal g c = subst (λ t. Normal (step (view_setting c.args.world.now)) (term_tree c.args.term.now) t) (sym c.in_ok-made.ensures.stands) c.in_ok-found.ensures
