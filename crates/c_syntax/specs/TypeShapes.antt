-- A type by what it holds, and the type that this makes (C11 6.7.2, 6.7.6).
use Rattle.c_syntax.specs.declared.expr.CType.{CType}
use Rattle.c_syntax.specs.declared.expr.CType.TheVariants as ctype
use Rattle.c_syntax.specs.declared.shapes.types.TypeLeaf.{TypeLeaf}
use Rattle.c_syntax.specs.declared.shapes.types.TypeLeaf.TheVariants as leaf
use Rattle.c_syntax.specs.declared.shapes.types.TypeShape.{TypeShape}
use Rattle.c_syntax.specs.declared.shapes.types.TypeShape.TheVariants as shape

abbrev pub type_leaf : TypeLeaf → CType
type_leaf leaf.Void = ctype.Void
type_leaf (leaf.Kind k) = ctype.Kind k
type_leaf leaf.Integer = ctype.Integer
type_leaf (leaf.Struct x) = ctype.Struct x.now
type_leaf (leaf.Enum x) = ctype.Enum x.now
type_leaf (leaf.Named x) = ctype.Named x.now

abbrev pub type_whole : TypeShape → CType
type_whole (shape.Leaf head) = type_leaf head
type_whole (shape.Pointer to) = ctype.Pointer to.now
type_whole (shape.Array of length) = ctype.Array of.now length.now
type_whole (shape.Const of) = ctype.Const of.now
