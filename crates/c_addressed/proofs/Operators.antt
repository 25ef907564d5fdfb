-- Operators take the addresses that their operands take.
use Rattle.std.proofs.Common.{ℕ, Bool, true, false, ◌&&◌, if◌then◌else◌, List, Option, Some, None, Ok}
use Rattle.wp_base.specs.declared.kinds.Kind.{Kind}
use Rattle.wp_base.specs.declared.kinds.Kind.TheVariants as kind
use Rattle.c_kinds.specs.declared.models.Machdep.{Machdep}
use Rattle.c_kinds.specs.Conversions.{promote, common}
use Rattle.c_syntax.specs.declared.expr.UnOp.{UnOp}
use Rattle.c_syntax.specs.declared.expr.UnOp.TheVariants as un
use Rattle.c_syntax.specs.declared.expr.BinOp.{BinOp}
use Rattle.c_syntax.specs.declared.expr.BinOp.TheVariants as bin
use Rattle.typed_prog.specs.declared.operators.Arithmetic.{Arithmetic}
use Rattle.typed_prog.specs.declared.operators.Arithmetic.TheVariants as ar
use Rattle.typed_prog.specs.declared.operators.Comparison.{Comparison}
use Rattle.typed_prog.specs.declared.operators.Comparison.TheVariants as cmp
use Rattle.typed_prog.specs.declared.operators.Connective.{Connective}
use Rattle.typed_prog.specs.declared.operators.Connective.TheVariants as con
use Rattle.typed_prog.specs.declared.operators.Op.{Op}
use Rattle.typed_prog.specs.declared.operators.Op.TheVariants as op
use Rattle.typed_prog.specs.declared.operators.Path.{Path}
use Rattle.typed_prog.specs.Types.{is_pointer, is_void}
use Rattle.typed_prog.specs.Tree as t
use Rattle.c_answers.specs.Answers.{wrong}
use Rattle.c_operands.specs.Operands.{Operand, Rvalue}
use Rattle.c_operands.specs.Conversions.{kind_of_value, is_null}
use Rattle.c_rules.specs.Integers.{constant_in, known_of_one, known_of_two, promoted_by, promoted, plus_by, plus, of_two, arithmetic_by, arithmetic, shift_by, shift, compared}
use Rattle.c_rules.specs.Pointers.{stride, are_alike, compared_pointers, ordered, equal_by, equal, joint}
use Rattle.c_rules.specs.Operators.{is_scalar, scalar, minus, complement, unary_plus, not_of, offset_by, offset, swapped_by, swapped, sum_by, sum, apart_by, apart, difference_by, difference, order_by, order, equality_by, equality, logic, binary_values, binary, known_of_three, pointer_arms, other_arms_by, other_arms, arms_by, conditional_values, conditional}
use Rattle.c_addressed.specs.Addressed.{OpTakes}
use Rattle.c_addressed.proofs.Values.{Holds, after_holds, Takes, Rvalues, OperandTakes, Result, Made, folded_takes, converted_takes, after_valued, requalified_takes}

module _ (N : Path → Type 0) where
  abbrev V : Rvalue → Type 0
  V v = Rvalues N v

  scalar_takes : (line : ℕ) (v : Rvalue) → V v → Holds V (scalar line v)
  scalar_takes line v h = by (is_scalar (t.type_of v.value)) where
    by : (b : Bool) → Holds V (if b then Ok v else wrong line)
    by true = h
    by false = tt

  -- ---- one operand

  promoted_takes : (m : Machdep) (line : ℕ) (o : Op) (how : UnOp) (v : Rvalue) → OpTakes N o → V v → Made N (promoted m line o how v)
  promoted_takes m line o how v is h = by (kind_of_value v.value) where
    by : (k : Option Kind) → Made N (promoted_by m line o how v k)
    by (Some k) = folded_takes N (promote k) line _ v.is_constant (known_of_one m how (constant_in v)) (is, (converted_takes N m (promote k) v.value h, tt))
    by None = tt

  plus_takes : (m : Machdep) (line : ℕ) (v : Rvalue) → V v → Made N (plus m line v)
  plus_takes m line v h = by (kind_of_value v.value) where
    by : (k : Option Kind) → Made N (plus_by m line v k)
    by (Some k) = converted_takes N m (promote k) v.value h
    by None = tt

  pub minus_takes : (m : Machdep) (line : ℕ) (x : Operand) → OperandTakes N x → Made N (minus m line x)
  unfolding minus
  minus_takes m line x h = after_valued N line x _ h (λ v k. promoted_takes m line op.Negate un.Minus v tt k)

  pub complement_takes : (m : Machdep) (line : ℕ) (x : Operand) → OperandTakes N x → Made N (complement m line x)
  unfolding complement
  complement_takes m line x h = after_valued N line x _ h (λ v k. promoted_takes m line op.Complement un.BitNot v tt k)

  pub unary_plus_takes : (m : Machdep) (line : ℕ) (x : Operand) → OperandTakes N x → Made N (unary_plus m line x)
  unfolding unary_plus
  unary_plus_takes m line x h = after_valued N line x _ h (λ v k. plus_takes m line v k)

  pub not_takes : (m : Machdep) (line : ℕ) (x : Operand) → OperandTakes N x → Made N (not_of m line x)
  unfolding not_of
  not_takes m line x h =
      after_valued N line x _ h (λ v k. after_holds V (Result N) (scalar line v) _ (scalar_takes line v k) (λ w l.
      folded_takes N kind.Int line _ w.is_constant (known_of_one m un.Not (constant_in w)) (tt, (l, tt))))

  -- ---- two integers

  two_take : (m : Machdep) (line : ℕ) (o : Op) (how : BinOp) (k j l : Kind) (v w : Rvalue) → OpTakes N o → V v → V w → Result N (of_two m line o how k j l v w)
  two_take m line o how k j l v w is h g =
      folded_takes N k line _ (v.is_constant && w.is_constant) (known_of_two m how (constant_in v) (constant_in w)) (is, (converted_takes N m j v.value h, (converted_takes N m l w.value g, tt)))

  arithmetic_takes : (m : Machdep) (line : ℕ) (o : Arithmetic) (how : BinOp) (v w : Rvalue) → V v → V w → Made N (arithmetic m line o how v w)
  arithmetic_takes m line o how v w h g = by (kind_of_value v.value) (kind_of_value w.value) where
    by : (j k : Option Kind) → Made N (arithmetic_by m line o how v w j k)
    by (Some j) (Some k) = two_take m line (op.Arithmetic o) how (common m j k) (common m j k) (common m j k) v w tt h g
    by (Some j) None = tt
    by None k = tt

  shift_takes : (m : Machdep) (line : ℕ) (o : Arithmetic) (how : BinOp) (v w : Rvalue) → V v → V w → Made N (shift m line o how v w)
  shift_takes m line o how v w h g = by (kind_of_value v.value) (kind_of_value w.value) where
    by : (j k : Option Kind) → Made N (shift_by m line o how v w j k)
    by (Some j) (Some k) = two_take m line (op.Arithmetic o) how (promote j) (promote j) (promote k) v w tt h g
    by (Some j) None = tt
    by None k = tt

  -- ---- sums and differences

  offset_takes : (sizes : List ℕ) (line : ℕ) (minus : Bool) (v w : Rvalue) → V v → V w → Made N (offset sizes line minus v w)
  offset_takes sizes line minus v w h g = by (stride sizes (t.type_of v.value)) (kind_of_value w.value) where
    by : (size : Option ℕ) (k : Option Kind) → Made N (offset_by line minus v w size k)
    by (Some size) (Some k) = (tt, (h, (g, tt)))
    by (Some size) None = tt
    by None k = tt

  swapped_takes : (sizes : List ℕ) (line : ℕ) (v w : Rvalue) → V v → V w → Made N (swapped sizes line v w)
  swapped_takes sizes line v w h g = by (kind_of_value v.value) (stride sizes (t.type_of w.value)) where
    by : (k : Option Kind) (size : Option ℕ) → Made N (swapped_by line v w k size)
    by (Some k) (Some size) = (tt, (h, (g, tt)))
    by (Some k) None = tt
    by None size = tt

  sum_takes : (m : Machdep) (sizes : List ℕ) (line : ℕ) (v w : Rvalue) → V v → V w → Made N (sum m sizes line v w)
  unfolding sum
  sum_takes m sizes line v w h g = by (is_pointer (t.type_of v.value)) (is_pointer (t.type_of w.value)) where
    by : (first second : Bool) → Made N (sum_by m sizes line v w first second)
    by true second = offset_takes sizes line false v w h g
    by false true = swapped_takes sizes line v w h g
    by false false = arithmetic_takes m line ar.Add bin.Add v w h g

  apart_takes : (m : Machdep) (sizes : List ℕ) (line : ℕ) (v w : Rvalue) → V v → V w → Made N (apart m sizes line v w)
  apart_takes m sizes line v w h g = by (are_alike (t.type_of v.value) (t.type_of w.value)) (stride sizes (t.type_of v.value)) where
    by : (alike : Bool) (size : Option ℕ) → Made N (apart_by m line v w alike size)
    by true (Some size) = (tt, (h, (g, tt)))
    by true None = tt
    by false size = tt

  difference_takes : (m : Machdep) (sizes : List ℕ) (line : ℕ) (v w : Rvalue) → V v → V w → Made N (difference m sizes line v w)
  unfolding difference
  difference_takes m sizes line v w h g = by (is_pointer (t.type_of v.value)) (is_pointer (t.type_of w.value)) where
    by : (first second : Bool) → Made N (difference_by m sizes line v w first second)
    by true true = apart_takes m sizes line v w h g
    by true false = offset_takes sizes line true v w h g
    by false second = arithmetic_takes m line ar.Sub bin.Sub v w h g

  -- ---- comparisons

  ordered_takes : (line : ℕ) (how : Comparison) (v w : t.Value) → Takes N v → Takes N w → Made N (ordered line how v w)
  ordered_takes line how v w h g = by (are_alike (t.type_of v) (t.type_of w)) where
    by : (alike : Bool) → Made N (if alike then Ok (compared_pointers line how v w) else wrong line)
    by true = (tt, (h, (g, tt)))
    by false = tt

  equal_takes : (line : ℕ) (how : Comparison) (v w : t.Value) → Takes N v → Takes N w → Made N (equal line how v w)
  equal_takes line how v w h g =
      by (are_alike (t.type_of v) (t.type_of w)) (is_pointer (t.type_of v) && is_null w) (is_null v && is_pointer (t.type_of w)) where
        by : (alike second_null first_null : Bool) → Made N (equal_by line how v w alike second_null first_null)
        by true n n' = (tt, (h, (g, tt)))
        by false true n' = (tt, (h, (tt, tt)))
        by false false true = (tt, (tt, (g, tt)))
        by false false false = tt

  compared_takes : (m : Machdep) (line : ℕ) (how : Comparison) (o : BinOp) (v w : Rvalue) (j k : Kind) → V v → V w → Result N (compared m line how o v w j k)
  compared_takes m line how o v w j k h g = two_take m line (op.Compare how) o kind.Int (common m j k) (common m j k) v w tt h g

  order_takes : (m : Machdep) (line : ℕ) (how : Comparison) (o : BinOp) (v w : Rvalue) → V v → V w → Made N (order m line how o v w)
  unfolding order
  order_takes m line how o v w h g = by (kind_of_value v.value) (kind_of_value w.value) where
    by : (j k : Option Kind) → Made N (order_by m line how o v w j k)
    by (Some j) (Some k) = compared_takes m line how o v w j k h g
    by (Some j) None = ordered_takes line how v.value w.value h g
    by None k = ordered_takes line how v.value w.value h g

  equality_takes : (m : Machdep) (line : ℕ) (how : Comparison) (o : BinOp) (v w : Rvalue) → V v → V w → Made N (equality m line how o v w)
  unfolding equality
  equality_takes m line how o v w h g = by (kind_of_value v.value) (kind_of_value w.value) where
    by : (j k : Option Kind) → Made N (equality_by m line how o v w j k)
    by (Some j) (Some k) = compared_takes m line how o v w j k h g
    by (Some j) None = equal_takes line how v.value w.value h g
    by None k = equal_takes line how v.value w.value h g

  -- ---- `&&` and `||`

  logic_takes : (m : Machdep) (line : ℕ) (how : Connective) (o : BinOp) (v w : Rvalue) → V v → V w → Made N (logic m line how o v w)
  unfolding logic
  logic_takes m line how o v w h g =
      after_holds V (Result N) (scalar line v) _ (scalar_takes line v h) (λ x k.
      after_holds V (Result N) (scalar line w) _ (scalar_takes line w g) (λ y l.
      folded_takes N kind.Int line _ (x.is_constant && y.is_constant) (known_of_two m o (constant_in x) (constant_in y)) (k, l)))

  -- ---- all operators of two operands

  values_take : (m : Machdep) (sizes : List ℕ) (line : ℕ) (o : BinOp) (v w : Rvalue) → V v → V w → Made N (binary_values m sizes line o v w)
  values_take m sizes line bin.Mul v w h g = arithmetic_takes m line ar.Mul bin.Mul v w h g
  values_take m sizes line bin.Div v w h g = arithmetic_takes m line ar.Div bin.Div v w h g
  values_take m sizes line bin.Rem v w h g = arithmetic_takes m line ar.Rem bin.Rem v w h g
  values_take m sizes line bin.Add v w h g = sum_takes m sizes line v w h g
  values_take m sizes line bin.Sub v w h g = difference_takes m sizes line v w h g
  values_take m sizes line bin.Shl v w h g = shift_takes m line ar.Shl bin.Shl v w h g
  values_take m sizes line bin.Shr v w h g = shift_takes m line ar.Shr bin.Shr v w h g
  values_take m sizes line bin.Less v w h g = order_takes m line cmp.Less bin.Less v w h g
  values_take m sizes line bin.AtMost v w h g = order_takes m line cmp.AtMost bin.AtMost v w h g
  values_take m sizes line bin.Greater v w h g = order_takes m line cmp.Greater bin.Greater v w h g
  values_take m sizes line bin.AtLeast v w h g = order_takes m line cmp.AtLeast bin.AtLeast v w h g
  values_take m sizes line bin.Equal v w h g = equality_takes m line cmp.Equal bin.Equal v w h g
  values_take m sizes line bin.NotEqual v w h g = equality_takes m line cmp.NotEqual bin.NotEqual v w h g
  values_take m sizes line bin.BitAnd v w h g = arithmetic_takes m line ar.And bin.BitAnd v w h g
  values_take m sizes line bin.BitXor v w h g = arithmetic_takes m line ar.Xor bin.BitXor v w h g
  values_take m sizes line bin.BitOr v w h g = arithmetic_takes m line ar.Or bin.BitOr v w h g
  values_take m sizes line bin.And v w h g = logic_takes m line con.And bin.And v w h g
  values_take m sizes line bin.Or v w h g = logic_takes m line con.Or bin.Or v w h g

  pub binary_takes : (m : Machdep) (sizes : List ℕ) (line : ℕ) (o : BinOp) (x y : Operand) → OperandTakes N x → OperandTakes N y → Made N (binary m sizes line o x y)
  unfolding binary
  binary_takes m sizes line o x y h g = after_valued N line x _ h (λ v k. after_valued N line y _ g (λ w l. values_take m sizes line o v w k l))

  -- ---- `?:`

  pointer_arms_take : (line : ℕ) (test : Rvalue) (v w : t.Value) → V test → Takes N v → Takes N w → Result N (pointer_arms line test v w)
  pointer_arms_take line test v w b h g =
      (b, requalified_takes N (joint (t.type_of v) (t.type_of w)) v h, requalified_takes N (joint (t.type_of v) (t.type_of w)) w g)

  other_arms_take : (line : ℕ) (test : Rvalue) (v w : t.Value) → V test → Takes N v → Takes N w → Made N (other_arms line test v w)
  other_arms_take line test v w b h g =
      by (are_alike (t.type_of v) (t.type_of w)) (is_pointer (t.type_of v) && is_null w) (is_null v && is_pointer (t.type_of w)) (is_void (t.type_of v) && is_void (t.type_of w)) where
        by : (alike second_null first_null both_void : Bool) → Made N (other_arms_by line test v w alike second_null first_null both_void)
        by true n n' e = pointer_arms_take line test v w b h g
        by false true n' e = (b, h, tt)
        by false false true e = (b, tt, g)
        by false false false true = (b, h, g)
        by false false false false = tt

  conditional_takes_by : (m : Machdep) (line : ℕ) (test v w : Rvalue) → V test → V v → V w → (j k : Option Kind) → Made N (arms_by m line test v w j k)
  conditional_takes_by m line test v w b h g (Some j) (Some k) =
      folded_takes N (common m j k) line _ (test.is_constant && v.is_constant && w.is_constant) (known_of_three m (constant_in test) (constant_in v) (constant_in w))
      (b, converted_takes N m (common m j k) v.value h, converted_takes N m (common m j k) w.value g)
  conditional_takes_by m line test v w b h g (Some j) None = other_arms_take line test v.value w.value b h g
  conditional_takes_by m line test v w b h g None k = other_arms_take line test v.value w.value b h g

  conditional_values_take : (m : Machdep) (line : ℕ) (test v w : Rvalue) → V test → V v → V w → Made N (conditional_values m line test v w)
  unfolding conditional_values
  conditional_values_take m line test v w b h g =
      after_holds V (Result N) (scalar line test) _ (scalar_takes line test b) (λ x k.
      conditional_takes_by m line x v w k h g (kind_of_value v.value) (kind_of_value w.value))

  pub conditional_takes : (m : Machdep) (line : ℕ) (test x y : Operand) → OperandTakes N test → OperandTakes N x → OperandTakes N y → Made N (conditional m line test x y)
  unfolding conditional
  conditional_takes m line test x y b h g =
      after_valued N line test _ b (λ u i. after_valued N line x _ h (λ v k. after_valued N line y _ g (λ w l. conditional_values_take m line u v w i k l)))
