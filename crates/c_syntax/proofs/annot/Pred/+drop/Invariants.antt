use Rattle.std.proofs.Common.{◌≤◌}
use Rattle.c_syntax.proofs.annot.Pred.TheLaws.{the_size}
use Rattle.c_syntax.proofs.annot.Pred.+drop.Given as goal

abbrev pub invariant-loop-left : goal.invariant-loop-left
invariant-loop-left l = the_size l.self ≤ the_size l.fn.self
