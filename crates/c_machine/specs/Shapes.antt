-- The constant that an expression is, by what the expression holds.
use Rattle.std.specs.Prelude.{Option, None}
use Rattle.c_syntax.specs.declared.shapes.exprs.ExprLeaf.{ExprLeaf}
use Rattle.c_syntax.specs.declared.shapes.exprs.ExprLeaf.TheVariants as leaf
use Rattle.c_syntax.specs.declared.shapes.exprs.ExprOne.{ExprOne}
use Rattle.c_syntax.specs.declared.shapes.exprs.ExprOne.TheVariants as one
use Rattle.c_syntax.specs.declared.shapes.exprs.ExprTwo.{ExprTwo}
use Rattle.c_syntax.specs.declared.shapes.exprs.ExprTwo.TheVariants as two
use Rattle.c_kinds.specs.declared.models.Machdep.{Machdep}
use Rattle.c_machine.specs.declared.rules.Constant.{Constant}
use Rattle.c_machine.specs.Literals.{token_constant, char_constant}
use Rattle.c_machine.specs.Constants.{unary, binary}

unfoldable pub leaf_constant : Machdep → ExprLeaf → Option Constant
leaf_constant m (leaf.Number token) = token_constant m token.now.kind
leaf_constant m (leaf.Char z) = char_constant m z
leaf_constant m (leaf.Name x) = None

unfoldable pub one_constant : Machdep → ExprOne → Option Constant → Option Constant
one_constant m (one.Unary op) c = unary m op c
one_constant m (one.Step up prefix) c = None
one_constant m (one.Field f arrow) c = None

unfoldable pub two_constant : Machdep → ExprTwo → Option Constant → Option Constant → Option Constant
two_constant m (two.Binary op) c d = binary m op c d
two_constant m (two.Assign op) c d = None
two_constant m two.Index c d = None
