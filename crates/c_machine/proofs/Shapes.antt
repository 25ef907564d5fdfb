-- The constant that an expression is, by what it holds.
use Rattle.std.proofs.Common.{◌≡◌, ℕ, ap}
use Rattle.c_syntax.specs.declared.expr.Expr.{Expr}
use Rattle.c_syntax.specs.declared.shapes.exprs.ExprLeaf.{ExprLeaf}
use Rattle.c_syntax.specs.declared.shapes.exprs.ExprLeaf.TheVariants as leaf
use Rattle.c_syntax.specs.declared.shapes.exprs.ExprOne.{ExprOne}
use Rattle.c_syntax.specs.declared.shapes.exprs.ExprOne.TheVariants as one
use Rattle.c_syntax.specs.declared.shapes.exprs.ExprTwo.{ExprTwo}
use Rattle.c_syntax.specs.declared.shapes.exprs.ExprTwo.TheVariants as two
use Rattle.c_syntax.specs.ExprShapes.{expr_leaf, expr_one, expr_two}
use Rattle.c_syntax.specs.View.{view_expr, view_expr_node}
use Rattle.c_syntax.proofs.Equations.{view_expr_node-Number, view_expr_node-Char, view_expr_node-Name, view_expr_node-Unary, view_expr_node-Step, view_expr_node-Field, view_expr_node-Binary, view_expr_node-Assign, view_expr_node-Index}
use Rattle.c_kinds.specs.declared.models.Machdep.{Machdep}
use Rattle.c_machine.specs.Constants.{constant_of}
use Rattle.c_machine.specs.Shapes.{leaf_constant, one_constant, two_constant}

pub leaf_is : (m : Machdep) (head : ExprLeaf) (line : ℕ) → constant_of m (view_expr_node (expr_leaf head) line) ≡ leaf_constant m head
unfolding leaf_constant
leaf_is m (leaf.Number token) line = ap (constant_of m) (view_expr_node-Number token.now line)
leaf_is m (leaf.Char z) line = ap (constant_of m) (view_expr_node-Char z line)
leaf_is m (leaf.Name x) line = ap (constant_of m) (view_expr_node-Name x.now line)

pub one_is : (m : Machdep) (head : ExprOne) (a : Expr) (line : ℕ) → constant_of m (view_expr_node (expr_one head a) line) ≡ one_constant m head (constant_of m (view_expr a))
unfolding one_constant
one_is m (one.Unary op) a line = ap (constant_of m) (view_expr_node-Unary op a line)
one_is m (one.Step up prefix) a line = ap (constant_of m) (view_expr_node-Step up prefix a line)
one_is m (one.Field f arrow) a line = ap (constant_of m) (view_expr_node-Field a f.now arrow line)

pub two_is : (m : Machdep) (head : ExprTwo) (a b : Expr) (line : ℕ) → constant_of m (view_expr_node (expr_two head a b) line) ≡ two_constant m head (constant_of m (view_expr a)) (constant_of m (view_expr b))
unfolding two_constant
two_is m (two.Binary op) a b line = ap (constant_of m) (view_expr_node-Binary op a b line)
two_is m (two.Assign op) a b line = ap (constant_of m) (view_expr_node-Assign op a b line)
two_is m two.Index a b line = ap (constant_of m) (view_expr_node-Index a b line)

pub ruleset shape_laws = (leaf_is, one_is, two_is)
