use Rattle.std.proofs.Common.{rules, sym, ◌∙◌, ap}
use Rattle.c_syntax.specs.declared.copies.types.Layer.TheVariants.{Pointer, Array, Const}
use Rattle.c_syntax.specs.declared.expr.CType.TheVariants as ctype
use Rattle.c_syntax.specs.declared.expr.CType.{the_lemmas}
use Rattle.c_syntax.proofs.Layers.{further}
use Rattle.c_syntax.specs.declared.expr.ExprNode.TheVariants as node
use Rattle.c_syntax.specs.ExprShapes.{expr_one, expr_two}
use Rattle.c_syntax.proofs.+expr_copy.Goals as goal

pub expr::CType::copy-loop-inner-preserved-in-Pointer : goal.expr::CType::copy-loop-inner-preserved-in-Pointer
expr::CType::copy-loop-inner-preserved-in-Pointer t c = (
  further c.loop-inner.layers.items c.push.new.self.items Pointer c.loop-inner.inner.now c.get-inner.result.now c.args.self.now
      c.in_ok-push-in-Pointer.ensures.items (c.in-Pointer.is ∙ ap ctype.Pointer (sym c.get-inner.ensures)) c.loop-inner.invariant.0,
  search (rules, the_lemmas),
)

pub expr::CType::copy-loop-inner-preserved-in-Array : goal.expr::CType::copy-loop-inner-preserved-in-Array
expr::CType::copy-loop-inner-preserved-in-Array t c = (
  further c.loop-inner.layers.items c.push-in-Array.new.self.items (Array c.in_ok-copy-in-Array.field-0) c.loop-inner.inner.now c.get-inner-in-Array.result.now c.args.self.now
      c.in_ok-push-in-Array.ensures.items (c.in-Array.is ∙ (λ i. ctype.Array (sym c.get-inner-in-Array.ensures i) (sym (c.in_ok-copy-in-Array.ensures ∙ c.get.ensures) i))) c.loop-inner.invariant.0,
  search (rules, the_lemmas),
)

pub expr::CType::copy-loop-inner-preserved : goal.expr::CType::copy-loop-inner-preserved
expr::CType::copy-loop-inner-preserved t c = (
  further c.loop-inner.layers.items c.push-in-Const.new.self.items Const c.loop-inner.inner.now c.get-inner-in-Const.result.now c.args.self.now
      c.in_ok-push-in-Const.ensures.items (c.in-Const.is ∙ ap ctype.Const (sym c.get-inner-in-Const.ensures)) c.loop-inner.invariant.0,
  search (rules, the_lemmas),
)

pub expr::ExprNode::copy-returns-in-One : goal.expr::ExprNode::copy-returns-in-One
expr::ExprNode::copy-returns-in-One t c =
    c.one.ensures c.get.result.now c.args.self.now (c.in-One.ensures ∙ (λ i. expr_one c.in-One.head (sym c.get.ensures i))) c.copy.ensures

pub expr::ExprNode::copy-returns-in-Two : goal.expr::ExprNode::copy-returns-in-Two
expr::ExprNode::copy-returns-in-Two t c =
    c.two.ensures c.get-in-Two.result.now c.get-in-Two-2.result.now c.args.self.now
    (c.in-Two.ensures ∙ (λ i. expr_two c.in-Two.head (sym c.get-in-Two.ensures i) (sym c.get-in-Two-2.ensures i)))
    c.copy-in-Two.ensures c.copy-in-Two-2.ensures

pub expr::ExprNode::copy-returns-in-Cond : goal.expr::ExprNode::copy-returns-in-Cond
expr::ExprNode::copy-returns-in-Cond t c =
    c.cond.ensures c.get-in-Cond.result.now c.get-in-Cond-2.result.now c.get-in-Cond-3.result.now c.args.self.now
    (c.in-Cond.ensures ∙ (λ i. node.Cond (sym c.get-in-Cond.ensures i) (sym c.get-in-Cond-2.ensures i) (sym c.get-in-Cond-3.ensures i)))
    c.copy-in-Cond.ensures c.copy-in-Cond-2.ensures c.copy-in-Cond-3.ensures

pub expr::ExprNode::copy-returns-in-Call : goal.expr::ExprNode::copy-returns-in-Call
expr::ExprNode::copy-returns-in-Call t c =
    c.call.ensures c.in-Call.args.now c.args.self.now c.in-Call.ensures c.copy_exprs.ensures

pub expr::ExprNode::copy-returns-in-Cast : goal.expr::ExprNode::copy-returns-in-Cast
expr::ExprNode::copy-returns-in-Cast t c =
    c.cast.ensures c.in-Cast.ty.now c.get-in-Cast.result.now c.args.self.now
    (c.in-Cast.ensures ∙ ap (node.Cast c.in-Cast.ty.now) (sym c.get-in-Cast.ensures))
    c.copy-in-Cast.ensures c.copy-in-Cast-2.ensures

pub expr::ExprNode::copy-returns-in-SizeOf : goal.expr::ExprNode::copy-returns-in-SizeOf
expr::ExprNode::copy-returns-in-SizeOf t c =
    c.size_of.ensures c.in-SizeOf.ty.now c.args.self.now c.in-SizeOf.ensures c.copy-in-SizeOf.ensures
