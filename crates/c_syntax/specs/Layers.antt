-- What stands around a type, from the outside to the inside.
use Rattle.std.specs.Prelude.{List, [], ◌∷◌}
use Rattle.c_syntax.specs.declared.copies.types.Layer.{Layer}
use Rattle.c_syntax.specs.declared.copies.types.Layer.TheVariants.{Pointer, Array, Const}
use Rattle.c_syntax.specs.declared.expr.CType.{CType}
use Rattle.c_syntax.specs.declared.expr.CType.TheVariants as ctype

-- the type that it makes of this one (C11 6.7.6)
abbrev pub around : Layer → CType → CType
around Pointer inner = ctype.Pointer inner
around (Array length) inner = ctype.Array inner length
around Const inner = ctype.Const inner

-- all of them, the first one outermost
unfoldable pub around_all : List Layer → CType → CType
around_all [] inner = inner
around_all (l ∷ ls) inner = around l (around_all ls inner)
