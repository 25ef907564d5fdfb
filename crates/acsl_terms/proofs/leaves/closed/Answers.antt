use Rattle.acsl_trees.specs.Operands.{view_operand}
use Rattle.acsl_terms.proofs.Closing.{closed_gives}
use Rattle.acsl_terms.proofs.leaves.closed.Goals as goal

pub returns : goal.returns
returns c given = λ is. closed_gives view_operand c.args.before c.args.at c.args.count.now c.args.term c.ended.result given c.ended.ensures is
