use Rattle.std.proofs.Common.{◌≤◌}
use Rattle.typed_prog.proofs.tree.Value.TheLaws.{the_size}
use Rattle.typed_prog.proofs.tree.Value.+value_drop.Given as goal

abbrev pub invariant-loop-first : goal.invariant-loop-first
invariant-loop-first l = the_size l.self ≤ the_size l.fn.self
