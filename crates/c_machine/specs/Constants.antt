-- Integer constant expressions: which expressions are such, of which kind each is, and its value where that is defined (C11 6.6p6). Enumerators stand as
-- numbers here, and typedef names and enumerated types as the types that they stand for; any other name is no constant. An operand that isn't evaluated is
-- to be a constant too, but needs no value.
use Rattle.std.specs.Prelude.{ℤ, Option, Some, None}
use Rattle.std.specs.Option.{option_map, option_and_then}
use Rattle.wp_base.specs.declared.kinds.Kind.{Kind}
use Rattle.c_syntax.specs.declared.expr.UnOp.{UnOp}
use Rattle.c_syntax.specs.declared.expr.BinOp.{BinOp}
use Rattle.c_syntax.specs.Expr as e
use Rattle.c_kinds.specs.declared.models.Machdep.{Machdep}
use Rattle.c_kinds.specs.Models.{size_kind}
use Rattle.c_machine.specs.declared.rules.Constant.{Constant}
use Rattle.c_machine.specs.Literals.{token_constant, char_constant}
use Rattle.c_machine.specs.Rules.{constant, unary_of, binary_of, chosen, cast_to, bytes, pointer_bytes, array_bytes}

-- ---- the same rules where an operand may be no constant

abbrev pub unary : Machdep → UnOp → Option Constant → Option Constant
unary m op c = option_and_then (unary_of m op) c

abbrev pub binary : Machdep → BinOp → Option Constant → Option Constant → Option Constant
binary m op (Some c) (Some d) = Some (binary_of m op c d)
binary m op c d = None

abbrev pub conditional : Machdep → Option Constant → Option Constant → Option Constant → Option Constant
conditional m (Some t) (Some c) (Some d) = Some (chosen m t c d)
conditional m t c d = None

abbrev pub cast : Machdep → Option Kind → Option Constant → Option Constant
cast m (Some k) (Some c) = Some (cast_to m k c)
cast m k c = None

abbrev pub size_constant : Machdep → Option ℤ → Option Constant
size_constant m size = option_map (λ z. constant (size_kind m) (Some z)) size

-- the integer kind that a type is, `const` or not
abbrev pub kind_of : e.CType → Option Kind
kind_of (e.kind k) = Some k
kind_of (e.constant of) = kind_of of
kind_of t = None

-- ---- an expression as a constant, and the bytes of a type

abbrev mutual
  pub constant_of : Machdep → e.Expr → Option Constant
  constant_of m (e.number line token) = token_constant m token.kind
  constant_of m (e.char line z) = char_constant m z
  constant_of m (e.unary line op a) = unary m op (constant_of m a)
  constant_of m (e.binary line op a b) = binary m op (constant_of m a) (constant_of m b)
  constant_of m (e.cond line test a b) = conditional m (constant_of m test) (constant_of m a) (constant_of m b)
  constant_of m (e.cast line type a) = cast m (kind_of type) (constant_of m a)
  constant_of m (e.sizeof line type) = size_constant m (bytes_of m type)
  constant_of m (e.name line x) = None
  constant_of m (e.assign line op a b) = None
  constant_of m (e.step line up prefix a) = None
  constant_of m (e.call line f args) = None
  constant_of m (e.index line a b) = None
  constant_of m (e.field line a f arrow) = None

  -- no size here have `void`, structs, and arrays without a constant length of 1 or more
  pub bytes_of : Machdep → e.CType → Option ℤ
  bytes_of m (e.kind k) = Some (bytes m k)
  bytes_of m (e.pointer to) = Some (pointer_bytes m)
  bytes_of m (e.array of length) = array_bytes m (bytes_of m of) (constant_of m length)
  bytes_of m (e.constant of) = bytes_of m of
  bytes_of m e.void = None
  bytes_of m e.integer = None
  bytes_of m (e.struct_of x) = None
  bytes_of m (e.enum_of x) = None
  bytes_of m (e.named x) = None

-- its value, where it is an integer constant expression and that is defined
abbrev pub value_in : Constant → Option ℤ
value_in c = c.value

unfoldable pub eval_const : Machdep → e.Expr → Option ℤ
eval_const m e = option_and_then value_in (constant_of m e)
