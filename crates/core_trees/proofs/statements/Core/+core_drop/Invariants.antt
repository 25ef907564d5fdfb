use Rattle.std.proofs.Common.{◌≤◌}
use Rattle.core_trees.proofs.statements.Core.TheLaws.{the_size}
use Rattle.core_trees.proofs.statements.Core.+core_drop.Given as goal

abbrev pub invariant-loop-self : goal.invariant-loop-self
invariant-loop-self l = the_size l.self ≤ the_size l.fn.self
