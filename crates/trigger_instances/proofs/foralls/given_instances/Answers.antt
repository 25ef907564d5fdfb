use Rattle.std.proofs.Common.{ap, map}
use Rattle.trigger_instances.proofs.Given.{behind_whole}
use Rattle.trigger_instances.proofs.foralls.given_instances.Goals as goal

pub returns-clause-given : goal.returns-clause-given
returns-clause-given g c = λ ls is. behind_whole ls _ _ _ (ap (map (g.S.TermStore.tree c.args.store.now)) c.new-made.ensures.items) (c.in_ok-put_literals.ensures.given ls is)
