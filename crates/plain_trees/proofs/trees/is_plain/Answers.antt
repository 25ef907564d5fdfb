use Rattle.plain_trees.proofs.Counting.{none_around}
use Rattle.plain_trees.proofs.trees.is_plain.Goals as goal

pub returns : goal.returns
returns c = c.is_plain_under.ensures 0 none_around
