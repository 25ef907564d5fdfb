-- An expression by what it holds, and the expression that this makes (C11 6.5).
use Rattle.c_syntax.specs.declared.expr.Expr.{Expr}
use Rattle.c_syntax.specs.declared.expr.ExprNode.{ExprNode}
use Rattle.c_syntax.specs.declared.expr.ExprNode.TheVariants as expr
use Rattle.c_syntax.specs.declared.shapes.exprs.ExprLeaf.{ExprLeaf}
use Rattle.c_syntax.specs.declared.shapes.exprs.ExprLeaf.TheVariants as leaf
use Rattle.c_syntax.specs.declared.shapes.exprs.ExprOne.{ExprOne}
use Rattle.c_syntax.specs.declared.shapes.exprs.ExprOne.TheVariants as one
use Rattle.c_syntax.specs.declared.shapes.exprs.ExprTwo.{ExprTwo}
use Rattle.c_syntax.specs.declared.shapes.exprs.ExprTwo.TheVariants as two
use Rattle.c_syntax.specs.declared.shapes.exprs.ExprShape.{ExprShape}
use Rattle.c_syntax.specs.declared.shapes.exprs.ExprShape.TheVariants as shape

abbrev pub expr_leaf : ExprLeaf → ExprNode
expr_leaf (leaf.Number token) = expr.Number token.now
expr_leaf (leaf.Char value) = expr.Char value
expr_leaf (leaf.Name x) = expr.Name x.now

abbrev pub expr_one : ExprOne → Expr → ExprNode
expr_one (one.Unary op) a = expr.Unary op a
expr_one (one.Step up prefix) a = expr.Step up prefix a
expr_one (one.Field f arrow) a = expr.Field a f.now arrow

abbrev pub expr_two : ExprTwo → Expr → Expr → ExprNode
expr_two (two.Binary op) a b = expr.Binary op a b
expr_two (two.Assign op) a b = expr.Assign op a b
expr_two two.Index a b = expr.Index a b

abbrev pub expr_whole : ExprShape → ExprNode
expr_whole (shape.Leaf head) = expr_leaf head
expr_whole (shape.One head a) = expr_one head a.now
expr_whole (shape.Two head a b) = expr_two head a.now b.now
expr_whole (shape.Cond test a b) = expr.Cond test.now a.now b.now
expr_whole (shape.Call f args) = expr.Call f.now args.now
expr_whole (shape.Cast type a) = expr.Cast type.now a.now
expr_whole (shape.SizeOf type) = expr.SizeOf type.now
