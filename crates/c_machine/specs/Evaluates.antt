-- Integer constant expressions as relations, rule by rule: which expressions are such and of which kind, what they evaluate to, and how many bytes a type
-- takes (C11 6.6p3, p4, p6). An operand that isn't evaluated is an integer constant expression, and nothing is said of its value.
use Rattle.std.specs.Prelude.{◌≡◌, ◌≢◌, ℕ, Bool, true, false, ℤ, pos, ◌*ℤ◌, ◌≤ℤ◌, Some}
use Rattle.wp_base.specs.declared.kinds.Kind.{Kind}
use Rattle.wp_base.specs.declared.kinds.Kind.TheVariants as kind
use Rattle.c_syntax.specs.declared.token.Base.{Base}
use Rattle.c_syntax.specs.declared.token.Suffix.{Suffix}
use Rattle.c_syntax.specs.declared.token.TokenKind.TheVariants as token
use Rattle.c_syntax.specs.declared.token.Token.{Token}
use Rattle.c_syntax.specs.declared.expr.UnOp.TheVariants as un
use Rattle.c_syntax.specs.declared.expr.BinOp.{BinOp}
use Rattle.c_syntax.specs.declared.expr.BinOp.TheVariants as bin
use Rattle.c_syntax.specs.Expr as e
use Rattle.c_kinds.specs.declared.models.Machdep.{Machdep}
use Rattle.c_kinds.specs.Models.{convert, holds, size_kind}
use Rattle.c_kinds.specs.Conversions.{promote, common}
use Rattle.c_kinds.specs.Numbers as n
use Rattle.c_machine.specs.Literals.{kinds_for, first_holding}
use Rattle.c_machine.specs.Rules.{operate, shift, bytes, pointer_bytes}
use Rattle.c_machine.specs.Constants.{kind_of}

-- the operators whose result is of the common kind of the operands (C11 6.5.5, 6.5.6, 6.5.10 to 6.5.12)
abbrev pub is_arithmetic : BinOp → Bool
is_arithmetic bin.Mul = true
is_arithmetic bin.Div = true
is_arithmetic bin.Rem = true
is_arithmetic bin.Add = true
is_arithmetic bin.Sub = true
is_arithmetic bin.BitAnd = true
is_arithmetic bin.BitXor = true
is_arithmetic bin.BitOr = true
is_arithmetic op = false

-- those that compare (C11 6.5.8, 6.5.9)
abbrev pub is_comparison : BinOp → Bool
is_comparison bin.Less = true
is_comparison bin.AtMost = true
is_comparison bin.Greater = true
is_comparison bin.AtLeast = true
is_comparison bin.Equal = true
is_comparison bin.NotEqual = true
is_comparison op = false

-- shifts (C11 6.5.7)
abbrev pub is_shift : BinOp → Bool
is_shift bin.Shl = true
is_shift bin.Shr = true
is_shift op = false

-- `&&` and `||` (C11 6.5.13, 6.5.14)
abbrev pub is_logic : BinOp → Bool
is_logic bin.And = true
is_logic bin.Or = true
is_logic op = false

mutual
  -- an integer constant expression of this kind
  pub data IsConstant (m : Machdep) : e.Expr → Kind → Type 0 where
    number : {line : ℕ} {t : Token} (z : ℤ) (b : Base) (s : Suffix) {k : Kind} → t.kind ≡ token.Number z b s → first_holding m z (kinds_for b s) ≡ Some k
        → IsConstant m (e.number line t) k
    character : {line : ℕ} {z : ℤ} → holds m kind.Int z ≡ true → IsConstant m (e.char line z) kind.Int
    plus : {line : ℕ} {a : e.Expr} {k : Kind} → IsConstant m a k → IsConstant m (e.unary line un.Plus a) (promote k)
    minus : {line : ℕ} {a : e.Expr} {k : Kind} → IsConstant m a k → IsConstant m (e.unary line un.Minus a) (promote k)
    complement : {line : ℕ} {a : e.Expr} {k : Kind} → IsConstant m a k → IsConstant m (e.unary line un.BitNot a) (promote k)
    negation : {line : ℕ} {a : e.Expr} {k : Kind} → IsConstant m a k → IsConstant m (e.unary line un.Not a) kind.Int
    arithmetic : {line : ℕ} {op : BinOp} {a b : e.Expr} {k l : Kind} → is_arithmetic op ≡ true → IsConstant m a k → IsConstant m b l
        → IsConstant m (e.binary line op a b) (common m k l)
    comparison : {line : ℕ} {op : BinOp} {a b : e.Expr} {k l : Kind} → is_comparison op ≡ true → IsConstant m a k → IsConstant m b l
        → IsConstant m (e.binary line op a b) kind.Int
    shifted : {line : ℕ} {op : BinOp} {a b : e.Expr} {k l : Kind} → is_shift op ≡ true → IsConstant m a k → IsConstant m b l
        → IsConstant m (e.binary line op a b) (promote k)
    logic : {line : ℕ} {op : BinOp} {a b : e.Expr} {k l : Kind} → is_logic op ≡ true → IsConstant m a k → IsConstant m b l
        → IsConstant m (e.binary line op a b) kind.Int
    conditional : {line : ℕ} {test a b : e.Expr} {j k l : Kind} → IsConstant m test j → IsConstant m a k → IsConstant m b l
        → IsConstant m (e.cond line test a b) (common m k l)
    cast : {line : ℕ} {t : e.CType} {a : e.Expr} {k l : Kind} → kind_of t ≡ Some k → IsConstant m a l → IsConstant m (e.cast line t a) k
    size : {line : ℕ} {t : e.CType} {z : ℤ} → Takes m t z → IsConstant m (e.sizeof line t) (size_kind m)

  -- an integer constant expression of this kind whose value is this number
  pub data Evaluates (m : Machdep) : e.Expr → Kind → ℤ → Type 0 where
    number_value : {line : ℕ} {t : Token} {z : ℤ} (b : Base) (s : Suffix) {k : Kind} → t.kind ≡ token.Number z b s → first_holding m z (kinds_for b s) ≡ Some k
        → Evaluates m (e.number line t) k z
    character_value : {line : ℕ} {z : ℤ} → holds m kind.Int z ≡ true → Evaluates m (e.char line z) kind.Int z
    plus_value : {line : ℕ} {a : e.Expr} {k : Kind} {y : ℤ} → Evaluates m a k y → Evaluates m (e.unary line un.Plus a) (promote k) (convert m (promote k) y)
    minus_value : {line : ℕ} {a : e.Expr} {k : Kind} (y : ℤ) {z : ℤ} → Evaluates m a k y → n.negated m (promote k) (convert m (promote k) y) ≡ Some z
        → Evaluates m (e.unary line un.Minus a) (promote k) z
    complement_value : {line : ℕ} {a : e.Expr} {k : Kind} (y : ℤ) {z : ℤ} → Evaluates m a k y → n.complement m (promote k) (convert m (promote k) y) ≡ Some z
        → Evaluates m (e.unary line un.BitNot a) (promote k) z
    negation_value : {line : ℕ} {a : e.Expr} (k : Kind) {y : ℤ} → Evaluates m a k y → Evaluates m (e.unary line un.Not a) kind.Int (n.equal y (pos 0))
    -- both operands are converted to their common kind
    arithmetic_value : {line : ℕ} {op : BinOp} {a b : e.Expr} {k l : Kind} (y z : ℤ) {r : ℤ} → is_arithmetic op ≡ true → Evaluates m a k y → Evaluates m b l z
        → operate m op (common m k l) (convert m (common m k l) y) (convert m (common m k l) z) ≡ Some r → Evaluates m (e.binary line op a b) (common m k l) r
    comparison_value : {line : ℕ} {op : BinOp} {a b : e.Expr} (k l : Kind) (y z : ℤ) {r : ℤ} → is_comparison op ≡ true → Evaluates m a k y → Evaluates m b l z
        → operate m op (common m k l) (convert m (common m k l) y) (convert m (common m k l) z) ≡ Some r → Evaluates m (e.binary line op a b) kind.Int r
    shift_value : {line : ℕ} {op : BinOp} {a b : e.Expr} {k : Kind} (l : Kind) (y z : ℤ) {r : ℤ} → is_shift op ≡ true → Evaluates m a k y → Evaluates m b l z
        → shift m op (promote k) (convert m (promote k) y) (convert m (promote l) z) ≡ Some r → Evaluates m (e.binary line op a b) (promote k) r
    -- where the first operand of `&&` is 0, or that of `||` isn't, the second one isn't evaluated
    and_short : {line : ℕ} {a b : e.Expr} (k l : Kind) → Evaluates m a k (pos 0) → IsConstant m b l → Evaluates m (e.binary line bin.And a b) kind.Int (pos 0)
    and_long : {line : ℕ} {a b : e.Expr} (k l : Kind) (y : ℤ) {z : ℤ} → Evaluates m a k y → y ≢ pos 0 → Evaluates m b l z
        → Evaluates m (e.binary line bin.And a b) kind.Int (n.not_equal z (pos 0))
    or_short : {line : ℕ} {a b : e.Expr} (k l : Kind) (y : ℤ) → Evaluates m a k y → y ≢ pos 0 → IsConstant m b l
        → Evaluates m (e.binary line bin.Or a b) kind.Int (pos 1)
    or_long : {line : ℕ} {a b : e.Expr} (k l : Kind) {z : ℤ} → Evaluates m a k (pos 0) → Evaluates m b l z
        → Evaluates m (e.binary line bin.Or a b) kind.Int (n.not_equal z (pos 0))
    -- one of the arms isn't evaluated; the kind is that of both
    first_chosen : {line : ℕ} {test a b : e.Expr} (j : Kind) {k l : Kind} (x : ℤ) {y : ℤ} → Evaluates m test j x → x ≢ pos 0 → Evaluates m a k y
        → IsConstant m b l
        → Evaluates m (e.cond line test a b) (common m k l) (convert m (common m k l) y)
    second_chosen : {line : ℕ} {test a b : e.Expr} (j : Kind) {k l : Kind} {z : ℤ} → Evaluates m test j (pos 0) → IsConstant m a k → Evaluates m b l z
        → Evaluates m (e.cond line test a b) (common m k l) (convert m (common m k l) z)
    cast_value : {line : ℕ} {t : e.CType} {a : e.Expr} {k : Kind} (l : Kind) {y : ℤ} → kind_of t ≡ Some k → Evaluates m a l y
        → Evaluates m (e.cast line t a) k (convert m k y)
    size_value : {line : ℕ} {t : e.CType} {z : ℤ} → Takes m t z → Evaluates m (e.sizeof line t) (size_kind m) z

  -- an object of this type takes so many bytes (C11 6.5.3.4)
  pub data Takes (m : Machdep) : e.CType → ℤ → Type 0 where
    of_kind : {k : Kind} → Takes m (e.kind k) (bytes m k)
    of_pointer : {t : e.CType} → Takes m (e.pointer t) (pointer_bytes m)
    -- an array has at least one element, and no more bytes than `sizeof` can tell
    of_array : {t : e.CType} {a : e.Expr} (k : Kind) (size count : ℤ) {z : ℤ} → Takes m t size → Evaluates m a k count → pos 1 ≤ℤ count
        → n.held m (size_kind m) (size *ℤ count) ≡ Some z → Takes m (e.array t a) z
    of_const : {t : e.CType} {z : ℤ} → Takes m t z → Takes m (e.constant t) z
