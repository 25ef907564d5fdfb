use Rattle.std.proofs.Common.{◌≡◌, ◌≤◌, drop}
use Rattle.c_syntax.specs.declared.expr.Expr.{size-Expr}
use Rattle.c_syntax.specs.View.{view_expr}
use Rattle.typed_prog.specs.View.{view_values}
use Rattle.c_exprs.specs.Typing.{around, typed, typed_for, typed_all}
use Rattle.c_exprs.specs.Frames.{all_framed, args_of, behind}
use Rattle.c_exprs.proofs.exprs.+exprs.Given as goal

-- what stands around the operand that is left makes the whole, and that operand is no larger
abbrev pub invariant-typed_expr-loop-rest : goal.invariant-typed_expr-loop-rest
invariant-typed_expr-loop-rest l = record {
  whole : all_framed (around l.model l.sizes l.scope) l.frames.items (typed (around l.model l.sizes l.scope) (view_expr l.rest)) ≡ typed (around l.model l.sizes l.scope) (view_expr l.expr);
  no_larger : size-Expr l.rest ≤ size-Expr l.expr;
}

abbrev pub invariant-typed_for-loop-i : goal.invariant-typed_for-loop-i
invariant-typed_for-loop-i l =
    behind (view_values l.values) (typed_for (around l.model l.sizes l.scope) (drop l.i l.params) (args_of (drop l.i l.args))) ≡ typed_for (around l.model l.sizes l.scope) l.params (args_of l.args)

abbrev pub invariant-not_called-loop-arg : goal.invariant-not_called-loop-arg
invariant-not_called-loop-arg l = typed_all (around l.model l.sizes l.scope) (args_of (drop l.arg-index l.args)) ≡ typed_all (around l.model l.sizes l.scope) (args_of l.args)
