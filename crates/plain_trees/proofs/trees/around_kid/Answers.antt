use Rattle.plain_trees.proofs.Counting.{bound_kid}
use Rattle.plain_trees.proofs.trees.around_kid.Goals as goal

pub returns-then-is_last : goal.returns-then-is_last
returns-then-is_last c = λ d h. bound_kid c.args.in_binder c.args.is_last c.inside.result d c.if-in_binder.true c.if-is_last.true (c.inside.ensures d h)
