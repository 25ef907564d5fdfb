use Rattle.std.proofs.Common.{◌≡◌, sym, ap, subst}
use Rattle.qed_terms.specs.View.{view_setting}
use Rattle.qed_rules.specs.Rules.{step}
use Rattle.qed_simplify.specs.Normal.{Normal}
use Rattle.stored_normals.proofs.normal.normal_in.Goals as goal

pub returns-clause-normal : goal.returns-clause-normal
returns-clause-normal g c =
    subst (λ t. Normal (step (view_setting c.args.world.now)) t (g.S.TermStore.tree c.made_normal.new.store c.in_ok-made.made)) c.in_ok-read.ensures c.in_ok-made.ensures.normal
