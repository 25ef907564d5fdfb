-- What operators make of constants: of which kind the result is, and its value where it has one (C11 6.3.1, 6.5.3 to 6.5.15).
use Rattle.std.specs.Prelude.{◌/◌, ℤ, pos, ◌*ℤ◌, int_le, Option, Some, None, if◌then◌else◌}
use Rattle.std.specs.Option.{option_map, option_and_then}
use Rattle.std.specs.Ordering.{int_eq}
use Rattle.wp_base.specs.declared.kinds.Kind.{Kind}
use Rattle.wp_base.specs.declared.kinds.Kind.TheVariants as kind
use Rattle.c_syntax.specs.declared.expr.UnOp.{UnOp}
use Rattle.c_syntax.specs.declared.expr.UnOp.TheVariants as un
use Rattle.c_syntax.specs.declared.expr.BinOp.{BinOp}
use Rattle.c_syntax.specs.declared.expr.BinOp.TheVariants as bin
use Rattle.c_kinds.specs.declared.models.Machdep.{Machdep}
use Rattle.c_kinds.specs.Models.{convert, size_kind}
use Rattle.c_kinds.specs.Conversions.{promote, common}
use Rattle.c_kinds.specs.Numbers as n
use Rattle.c_machine.specs.declared.rules.Constant.{Constant}

abbrev pub constant : Kind → Option ℤ → Constant
constant k v = record { kind = k; value = v }

-- a value converted to a kind (C11 6.3.1)
abbrev pub converted : Machdep → Kind → Option ℤ → Option ℤ
converted m k v = option_map (convert m k) v

-- what is made of two values, where both are there
abbrev pub on_both : (ℤ → ℤ → Option ℤ) → Option ℤ → Option ℤ → Option ℤ
on_both f (Some y) (Some z) = f y z
on_both f v w = None

-- ---- one operand (C11 6.5.3.3)

-- the operand is promoted, but for `!`, which compares it with 0
unfoldable pub unary_of : Machdep → UnOp → Constant → Option Constant
unary_of m un.AddressOf c = None
unary_of m un.Deref c = None
unary_of m un.Plus c = Some (constant (promote c.kind) (converted m (promote c.kind) c.value))
unary_of m un.Minus c = Some (constant (promote c.kind) (option_and_then (n.negated m (promote c.kind)) (converted m (promote c.kind) c.value)))
unary_of m un.BitNot c = Some (constant (promote c.kind) (option_and_then (n.complement m (promote c.kind)) (converted m (promote c.kind) c.value)))
unary_of m un.Not c = Some (constant kind.Int (option_map (λ z. n.equal z (pos 0)) c.value))

-- ---- two operands of one kind, to which the usual arithmetic conversions bring them (C11 6.5.5, 6.5.6, 6.5.8 to 6.5.12)

abbrev pub operate : Machdep → BinOp → Kind → ℤ → ℤ → Option ℤ
operate m bin.Mul k y z = n.product m k y z
operate m bin.Div k y z = n.quotient m k y z
operate m bin.Rem k y z = n.remainder m k y z
operate m bin.Add k y z = n.sum m k y z
operate m bin.Sub k y z = n.difference m k y z
operate m bin.BitAnd k y z = n.and_bits m k y z
operate m bin.BitXor k y z = n.xor_bits m k y z
operate m bin.BitOr k y z = n.or_bits m k y z
operate m bin.Less k y z = Some (n.less y z)
operate m bin.AtMost k y z = Some (n.at_most y z)
operate m bin.Greater k y z = Some (n.less z y)
operate m bin.AtLeast k y z = Some (n.at_most z y)
operate m bin.Equal k y z = Some (n.equal y z)
operate m bin.NotEqual k y z = Some (n.not_equal y z)
operate m op k y z = None

-- the kind of the result: `int` of a comparison, and else that of the operands
abbrev pub result_kind : BinOp → Kind → Kind
result_kind bin.Less k = kind.Int
result_kind bin.AtMost k = kind.Int
result_kind bin.Greater k = kind.Int
result_kind bin.AtLeast k = kind.Int
result_kind bin.Equal k = kind.Int
result_kind bin.NotEqual k = kind.Int
result_kind op k = k

abbrev pub joined : Machdep → BinOp → Constant → Constant → Constant
joined m op c d =
    let k = common m c.kind d.kind in
    constant (result_kind op k) (on_both (operate m op k) (converted m k c.value) (converted m k d.value))

-- ---- shifts, whose operands are promoted each by itself (C11 6.5.7)

abbrev pub shift : Machdep → BinOp → Kind → ℤ → ℤ → Option ℤ
shift m bin.Shl k y z = n.left_shift m k y z
shift m bin.Shr k y z = n.right_shift m k y z
shift m op k y z = None

abbrev pub shifted : Machdep → BinOp → Constant → Constant → Constant
shifted m op c d =
    constant (promote c.kind) (on_both (shift m op (promote c.kind)) (converted m (promote c.kind) c.value) (converted m (promote d.kind) d.value))

-- ---- operands that are evaluated only where the first one leaves it open (C11 6.5.13, 6.5.14, 6.5.15)

-- that it isn't 0
abbrev pub is_true : ℤ → ℤ
is_true z = n.not_equal z (pos 0)

abbrev pub and_value : Option ℤ → Option ℤ → Option ℤ
and_value None w = None
and_value (Some y) w = if int_eq y (pos 0) then Some (pos 0) else option_map is_true w

abbrev pub or_value : Option ℤ → Option ℤ → Option ℤ
or_value None w = None
or_value (Some y) w = if int_eq y (pos 0) then option_map is_true w else Some (pos 1)

abbrev pub choose : Option ℤ → Option ℤ → Option ℤ → Option ℤ
choose None v w = None
choose (Some y) v w = if int_eq y (pos 0) then w else v

-- the kind is that of both arms, whichever is chosen
unfoldable pub chosen : Machdep → Constant → Constant → Constant → Constant
chosen m test c d = let k = common m c.kind d.kind in constant k (choose test.value (converted m k c.value) (converted m k d.value))

unfoldable pub binary_of : Machdep → BinOp → Constant → Constant → Constant
binary_of m bin.Shl c d = shifted m bin.Shl c d
binary_of m bin.Shr c d = shifted m bin.Shr c d
binary_of m bin.And c d = constant kind.Int (and_value c.value d.value)
binary_of m bin.Or c d = constant kind.Int (or_value c.value d.value)
binary_of m op c d = joined m op c d

-- ---- casts and sizes (C11 6.5.4, 6.5.3.4)

abbrev pub cast_to : Machdep → Kind → Constant → Constant
cast_to m k c = constant k (converted m k c.value)

abbrev pub bytes : Machdep → Kind → ℤ
bytes m k = pos (n.bits m k / 8)

-- a pointer is as wide as `long` in both data models
abbrev pub pointer_bytes : Machdep → ℤ
pointer_bytes m = bytes m kind.Long

-- so many elements of a size, at least one; no more than `sizeof` can tell
abbrev pub elements : Machdep → (size : ℤ) → (count : ℤ) → Option ℤ
elements m size count = if int_le (pos 1) count then n.held m (size_kind m) (size *ℤ count) else None

unfoldable pub array_bytes : Machdep → Option ℤ → Option Constant → Option ℤ
array_bytes m (Some size) (Some c) = option_and_then (elements m size) c.value
array_bytes m size c = None
