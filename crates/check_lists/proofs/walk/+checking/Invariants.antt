use Rattle.core_trees.specs.View.{view_variables}
use Rattle.check_lists.proofs.Numbering.{OperandsLeft}
use Rattle.check_lists.proofs.walk.+checking.Given as goal

abbrev pub invariant-push_all-loop-value : goal.invariant-push_all-loop-value
invariant-push_all-loop-value l = OperandsLeft (view_variables l.variables) l.fn.out l.out l.way l.values l.value-index l.number
