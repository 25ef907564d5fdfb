use Rattle.std.proofs.Common.{◌≡◌, ◌≤◌, take}
use Rattle.c_syntax.specs.Layers.{around_all}
use Rattle.c_syntax.specs.declared.expr.CType.{size-CType}
use Rattle.c_syntax.proofs.+expr_copy.Given as goal

-- what stands around the type that is left makes the whole with it, and that type is no larger than the whole
abbrev pub invariant-expr::CType::copy-loop-inner : goal.invariant-expr::CType::copy-loop-inner
invariant-expr::CType::copy-loop-inner l = (around_all l.layers.items l.inner ≡ l.fn.self) × (size-CType l.inner ≤ size-CType l.fn.self)

-- the copies so far are the expressions so far
abbrev pub invariant-copies::exprs::copy_exprs-loop-expr : goal.invariant-copies::exprs::copy_exprs-loop-expr
invariant-copies::exprs::copy_exprs-loop-expr l = l.copies ≡ take l.expr-index l.exprs
