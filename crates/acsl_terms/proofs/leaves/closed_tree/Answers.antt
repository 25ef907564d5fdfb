use Rattle.acsl_trees.specs.Tree.{view_tree}
use Rattle.acsl_terms.proofs.Closing.{closed_gives}
use Rattle.acsl_terms.proofs.leaves.closed_tree.Goals as goal

pub returns : goal.returns
returns c given = λ is. closed_gives view_tree c.args.before c.args.at c.args.count.now c.args.tree c.ended.result given c.ended.ensures is
