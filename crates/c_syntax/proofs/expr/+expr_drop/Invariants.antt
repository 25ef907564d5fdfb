use Rattle.std.proofs.Common.{◌≤◌}
use Rattle.c_syntax.proofs.expr.CType.TheLaws as ctype
use Rattle.c_syntax.proofs.expr.Expr.TheLaws as expr
use Rattle.c_syntax.proofs.expr.+expr_drop.Given as goal

abbrev pub invariant-CType::drop-loop-self : goal.invariant-CType::drop-loop-self
invariant-CType::drop-loop-self l = ctype.the_size l.self ≤ ctype.the_size l.fn.self

abbrev pub invariant-Expr::drop-loop-left : goal.invariant-Expr::drop-loop-left
invariant-Expr::drop-loop-left l = expr.the_size l.self ≤ expr.the_size l.fn.self
