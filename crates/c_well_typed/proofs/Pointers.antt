-- What operators make of pointers, and of the arms of `?:`, fits.
use Rattle.std.proofs.Common.{◌≡◌, ℕ, Bool, true, false, ◌&&◌, if◌then◌else◌, Option, Some, None, Ok, refl}
use Rattle.wp_base.specs.declared.kinds.Kind.{Kind}
use Rattle.c_kinds.specs.Conversions.{common}
use Rattle.c_syntax.specs.declared.expr.BinOp.{BinOp}
use Rattle.c_syntax.specs.declared.expr.BinOp.TheVariants as bin
use Rattle.c_answers.specs.Answers.{wrong}
use Rattle.typed_prog.specs.declared.types.CoreType.{CoreType}
use Rattle.typed_prog.specs.declared.operators.Arithmetic.TheVariants as ar
use Rattle.typed_prog.specs.declared.operators.Comparison.{Comparison}
use Rattle.typed_prog.specs.declared.operators.Comparison.TheVariants as cmp
use Rattle.typed_prog.specs.declared.operators.Connective.TheVariants as con
use Rattle.typed_prog.specs.Types.{is_pointer, is_void, same_type}
use Rattle.typed_prog.specs.Tree as t
use Rattle.c_operands.specs.Operands.{Operand, Rvalue, valued}
use Rattle.c_operands.specs.Conversions.{kind_of_value, is_null}
use Rattle.c_rules.specs.Integers.{constant_in}
use Rattle.c_rules.specs.Pointers.{stride, are_alike, compared_pointers, equal_by, requalified_by, joint}
use Rattle.c_rules.specs.Operators.{offset_by, offset, swapped_by, swapped, sum_by, sum, apart_by, difference_by, difference, order_by, order, equality_by, equality, binary_values, binary, scalar, known_of_three, pointer_arms, other_arms_by, arms_by, conditional_values, conditional}
use Rattle.c_exprs.specs.Typing.{Around}
use Rattle.c_well_typed.specs.Operators.{AreAlike, IsRequalified}
use Rattle.c_well_typed.specs.WellTyped.{OperandFits, ValueFits}
use Rattle.c_well_typed.proofs.Types.{left, right, is_same, void_is, alike_is, movable_is, joint_first, joint_second}
use Rattle.c_well_typed.proofs.Fitting.{after_holds, Made, RvalueFits, folded_fits, converted_fits, valued_fits}
use Rattle.c_well_typed.proofs.Integers.{ScalarFits, scalar_fits, arithmetic_made, shift_made, compared_fits, logic_made}

-- ---- sums and differences

offset_by_made : (c : Around) (line : ℕ) (minus : Bool) (v w : Rvalue) (size : Option ℕ) (k : Option Kind) → RvalueFits c v → RvalueFits c w
    → stride c.sizes (t.type_of v.value) ≡ size → kind_of_value w.value ≡ k → Made c (offset_by line minus v w size k)
offset_by_made c line minus v w None k fv fw es ek = tt
offset_by_made c line minus v w (Some size) None fv fw es ek = tt
offset_by_made c line minus v w (Some size) (Some k) fv fw es ek = ((fv, (fw, tt)), record { same = refl; movable = movable_is c _ size es; integer = (k, ek) })

offset_made : (c : Around) (line : ℕ) (minus : Bool) (v w : Rvalue) → RvalueFits c v → RvalueFits c w → Made c (offset c.sizes line minus v w)
offset_made c line minus v w fv fw = offset_by_made c line minus v w _ _ fv fw refl refl

swapped_by_made : (c : Around) (line : ℕ) (v w : Rvalue) (k : Option Kind) (size : Option ℕ) → RvalueFits c v → RvalueFits c w
    → kind_of_value v.value ≡ k → stride c.sizes (t.type_of w.value) ≡ size → Made c (swapped_by line v w k size)
swapped_by_made c line v w None size fv fw ek es = tt
swapped_by_made c line v w (Some k) None fv fw ek es = tt
swapped_by_made c line v w (Some k) (Some size) fv fw ek es = ((fv, (fw, tt)), record { same = refl; movable = movable_is c _ size es; integer = (k, ek) })

swapped_made : (c : Around) (line : ℕ) (v w : Rvalue) → RvalueFits c v → RvalueFits c w → Made c (swapped c.sizes line v w)
swapped_made c line v w fv fw = swapped_by_made c line v w _ _ fv fw refl refl

sum_by_made : (c : Around) (line : ℕ) (v w : Rvalue) (first second : Bool) → RvalueFits c v → RvalueFits c w
    → Made c (sum_by c.model c.sizes line v w first second)
sum_by_made c line v w true second fv fw = offset_made c line false v w fv fw
sum_by_made c line v w false true fv fw = swapped_made c line v w fv fw
sum_by_made c line v w false false fv fw = arithmetic_made c c.model line ar.Add bin.Add v w refl fv fw

sum_made : (c : Around) (line : ℕ) (v w : Rvalue) → RvalueFits c v → RvalueFits c w → Made c (sum c.model c.sizes line v w)
unfolding sum
sum_made c line v w fv fw = sum_by_made c line v w _ _ fv fw

apart_by_made : (c : Around) (line : ℕ) (v w : Rvalue) (alike : Bool) (size : Option ℕ) → RvalueFits c v → RvalueFits c w
    → are_alike (t.type_of v.value) (t.type_of w.value) ≡ alike → stride c.sizes (t.type_of v.value) ≡ size → Made c (apart_by c.model line v w alike size)
apart_by_made c line v w false size fv fw ea es = tt
apart_by_made c line v w true None fv fw ea es = tt
apart_by_made c line v w true (Some size) fv fw ea es = ((fv, (fw, tt)), (alike_is _ _ ea, movable_is c _ size es, refl))

difference_by_made : (c : Around) (line : ℕ) (v w : Rvalue) (first second : Bool) → RvalueFits c v → RvalueFits c w
    → Made c (difference_by c.model c.sizes line v w first second)
difference_by_made c line v w true true fv fw = apart_by_made c line v w _ _ fv fw refl refl
difference_by_made c line v w true false fv fw = offset_made c line true v w fv fw
difference_by_made c line v w false second fv fw = arithmetic_made c c.model line ar.Sub bin.Sub v w refl fv fw

difference_made : (c : Around) (line : ℕ) (v w : Rvalue) → RvalueFits c v → RvalueFits c w → Made c (difference c.model c.sizes line v w)
unfolding difference
difference_made c line v w fv fw = difference_by_made c line v w _ _ fv fw

-- ---- comparisons

ordered_by : (c : Around) (line : ℕ) (how : Comparison) (v w : t.Value) (alike : Bool) → ValueFits c v → ValueFits c w
    → are_alike (t.type_of v) (t.type_of w) ≡ alike
    → Made c (if alike then Ok (compared_pointers line how v w) else wrong line)
ordered_by c line how v w true fv fw ea = ((fv, (fw, tt)), (alike_is _ _ ea, refl))
ordered_by c line how v w false fv fw ea = tt

order_by_made : (c : Around) (line : ℕ) (how : Comparison) (o : BinOp) (v w : Rvalue) (j k : Option Kind) → RvalueFits c v → RvalueFits c w
    → kind_of_value v.value ≡ j → kind_of_value w.value ≡ k → Made c (order_by c.model line how o v w j k)
order_by_made c line how o v w (Some j) (Some k) fv fw ev ew = compared_fits c c.model line how o v w j k fv fw ev ew
order_by_made c line how o v w None k fv fw ev ew = ordered_by c line how v.value w.value _ fv fw refl
order_by_made c line how o v w (Some j) None fv fw ev ew = ordered_by c line how v.value w.value _ fv fw refl

order_made : (c : Around) (line : ℕ) (how : Comparison) (o : BinOp) (v w : Rvalue) → RvalueFits c v → RvalueFits c w → Made c (order c.model line how o v w)
unfolding order
order_made c line how o v w fv fw = order_by_made c line how o v w _ _ fv fw refl refl

equal_by_made : (c : Around) (line : ℕ) (how : Comparison) (v w : t.Value) (alike second first : Bool) → ValueFits c v → ValueFits c w
    → are_alike (t.type_of v) (t.type_of w) ≡ alike → is_pointer (t.type_of v) && is_null w ≡ second → is_null v && is_pointer (t.type_of w) ≡ first
    → Made c (equal_by line how v w alike second first)
equal_by_made c line how v w true second first fv fw ea es ef = ((fv, (fw, tt)), (alike_is _ _ ea, refl))
equal_by_made c line how v w false true first fv fw ea es ef =
    let pointer = left (is_pointer (t.type_of v)) (is_null w) es in ((fv, (pointer, tt)), ((pointer, pointer, refl), refl))
equal_by_made c line how v w false false true fv fw ea es ef =
    let pointer = right (is_null v) (is_pointer (t.type_of w)) ef in ((pointer, (fw, tt)), ((pointer, pointer, refl), refl))
equal_by_made c line how v w false false false fv fw ea es ef = tt

equality_by_made : (c : Around) (line : ℕ) (how : Comparison) (o : BinOp) (v w : Rvalue) (j k : Option Kind) → RvalueFits c v → RvalueFits c w
    → kind_of_value v.value ≡ j → kind_of_value w.value ≡ k → Made c (equality_by c.model line how o v w j k)
equality_by_made c line how o v w (Some j) (Some k) fv fw ev ew = compared_fits c c.model line how o v w j k fv fw ev ew
equality_by_made c line how o v w None k fv fw ev ew = equal_by_made c line how v.value w.value _ _ _ fv fw refl refl refl
equality_by_made c line how o v w (Some j) None fv fw ev ew = equal_by_made c line how v.value w.value _ _ _ fv fw refl refl refl

equality_made : (c : Around) (line : ℕ) (how : Comparison) (o : BinOp) (v w : Rvalue) → RvalueFits c v → RvalueFits c w
    → Made c (equality c.model line how o v w)
unfolding equality
equality_made c line how o v w fv fw = equality_by_made c line how o v w _ _ fv fw refl refl

-- ---- all operators of two operands

values_made : (c : Around) (line : ℕ) (o : BinOp) (v w : Rvalue) → RvalueFits c v → RvalueFits c w → Made c (binary_values c.model c.sizes line o v w)
values_made c line bin.Mul v w fv fw = arithmetic_made c c.model line ar.Mul bin.Mul v w refl fv fw
values_made c line bin.Div v w fv fw = arithmetic_made c c.model line ar.Div bin.Div v w refl fv fw
values_made c line bin.Rem v w fv fw = arithmetic_made c c.model line ar.Rem bin.Rem v w refl fv fw
values_made c line bin.Add v w fv fw = sum_made c line v w fv fw
values_made c line bin.Sub v w fv fw = difference_made c line v w fv fw
values_made c line bin.Shl v w fv fw = shift_made c c.model line ar.Shl bin.Shl v w refl fv fw
values_made c line bin.Shr v w fv fw = shift_made c c.model line ar.Shr bin.Shr v w refl fv fw
values_made c line bin.Less v w fv fw = order_made c line cmp.Less bin.Less v w fv fw
values_made c line bin.AtMost v w fv fw = order_made c line cmp.AtMost bin.AtMost v w fv fw
values_made c line bin.Greater v w fv fw = order_made c line cmp.Greater bin.Greater v w fv fw
values_made c line bin.AtLeast v w fv fw = order_made c line cmp.AtLeast bin.AtLeast v w fv fw
values_made c line bin.Equal v w fv fw = equality_made c line cmp.Equal bin.Equal v w fv fw
values_made c line bin.NotEqual v w fv fw = equality_made c line cmp.NotEqual bin.NotEqual v w fv fw
values_made c line bin.BitAnd v w fv fw = arithmetic_made c c.model line ar.And bin.BitAnd v w refl fv fw
values_made c line bin.BitXor v w fv fw = arithmetic_made c c.model line ar.Xor bin.BitXor v w refl fv fw
values_made c line bin.BitOr v w fv fw = arithmetic_made c c.model line ar.Or bin.BitOr v w refl fv fw
values_made c line bin.And v w fv fw = logic_made c c.model line con.And bin.And v w fv fw
values_made c line bin.Or v w fv fw = logic_made c c.model line con.Or bin.Or v w fv fw

pub binary_made : (c : Around) (line : ℕ) (o : BinOp) (x y : Operand) → OperandFits c x → OperandFits c y → Made c (binary c.model c.sizes line o x y)
unfolding binary
binary_made c line o x y fx fy =
    after_holds (RvalueFits c) (OperandFits c) (valued line x) _ (valued_fits c line x fx) (λ v fv.
    after_holds (RvalueFits c) (OperandFits c) (valued line y) _ (valued_fits c line y fy) (λ w fw. values_made c line o v w fv fw))

-- ---- `?:`

requalified_fits : (c : Around) (type : CoreType) (v : t.Value) (same : Bool) → ValueFits c v → same_type (t.type_of v) type ≡ same
    → (same_type (t.type_of v) type ≡ false → IsRequalified (t.type_of v) type)
    → ValueFits c (requalified_by type v same) × (t.type_of (requalified_by type v same) ≡ type)
requalified_fits c type v true fits e more = (fits, is_same (t.type_of v) type e)
requalified_fits c type v false fits e more = (((fits, tt), more e), refl)

pointer_arms_fit : (c : Around) (line : ℕ) (test : Rvalue) (v w : t.Value) → ScalarFits c test → ValueFits c v → ValueFits c w
    → AreAlike (t.type_of v) (t.type_of w)
    → OperandFits c (pointer_arms line test v w)
pointer_arms_fit c line test v w ft fv fw alike =
    let p = requalified_fits c (joint (t.type_of v) (t.type_of w)) v _ fv refl (joint_first (t.type_of v) (same_type (t.type_of v) (t.type_of w)) alike.0) in
    let q = requalified_fits c (joint (t.type_of v) (t.type_of w)) w _ fw refl (joint_second (t.type_of v) (t.type_of w) _ refl alike) in
    (ft.0, p.0, q.0, ft.1, p.1, q.1)

other_arms_made : (c : Around) (line : ℕ) (test : Rvalue) (v w : t.Value) (alike second first both_void : Bool) → ScalarFits c test → ValueFits c v
    → ValueFits c w
    → are_alike (t.type_of v) (t.type_of w) ≡ alike → is_pointer (t.type_of v) && is_null w ≡ second → is_null v && is_pointer (t.type_of w) ≡ first
    → is_void (t.type_of v) && is_void (t.type_of w) ≡ both_void → Made c (other_arms_by line test v w alike second first both_void)
other_arms_made c line test v w true second first both_void ft fv fw ea es ef eb = pointer_arms_fit c line test v w ft fv fw (alike_is _ _ ea)
other_arms_made c line test v w false true first both_void ft fv fw ea es ef eb = (ft.0, fv, left (is_pointer (t.type_of v)) (is_null w) es, ft.1, refl, refl)
other_arms_made c line test v w false false true both_void ft fv fw ea es ef eb = (ft.0, right (is_null v) (is_pointer (t.type_of w)) ef, fw, ft.1, refl, refl)
other_arms_made c line test v w false false false true ft fv fw ea es ef eb = (
  ft.0,
  fv,
  fw,
  ft.1,
  void_is _ (left (is_void (t.type_of v)) (is_void (t.type_of w)) eb),
  void_is _ (right (is_void (t.type_of v)) (is_void (t.type_of w)) eb),
)
other_arms_made c line test v w false false false false ft fv fw ea es ef eb = tt

arms_by_made : (c : Around) (line : ℕ) (test v w : Rvalue) (j k : Option Kind) → ScalarFits c test → RvalueFits c v → RvalueFits c w
    → kind_of_value v.value ≡ j → kind_of_value w.value ≡ k → Made c (arms_by c.model line test v w j k)
arms_by_made c line test v w (Some j) (Some k) ft fv fw ev ew =
    let p = converted_fits c c.model (common c.model j k) j v.value fv ev in let q = converted_fits c c.model (common c.model j k) k w.value fw ew in
    folded_fits c (common c.model j k) line _ _ (known_of_three c.model (constant_in test) (constant_in v) (constant_in w)) (ft.0, p.0, q.0, ft.1, p.1, q.1)
arms_by_made c line test v w None k ft fv fw ev ew = other_arms_made c line test v.value w.value _ _ _ _ ft fv fw refl refl refl refl
arms_by_made c line test v w (Some j) None ft fv fw ev ew = other_arms_made c line test v.value w.value _ _ _ _ ft fv fw refl refl refl refl

conditional_values_made : (c : Around) (line : ℕ) (test v w : Rvalue) → RvalueFits c test → RvalueFits c v → RvalueFits c w
    → Made c (conditional_values c.model line test v w)
unfolding conditional_values
conditional_values_made c line test v w ft fv fw =
    after_holds (ScalarFits c) (OperandFits c) (scalar line test) _ (scalar_fits c line test ft) (λ b fb. arms_by_made c line b v w _ _ fb fv fw refl refl)

pub conditional_made : (c : Around) (line : ℕ) (test x y : Operand) → OperandFits c test → OperandFits c x → OperandFits c y
    → Made c (conditional c.model line test x y)
unfolding conditional
conditional_made c line test x y ft fx fy =
    after_holds (RvalueFits c) (OperandFits c) (valued line test) _ (valued_fits c line test ft) (λ b fb.
    after_holds (RvalueFits c) (OperandFits c) (valued line x) _ (valued_fits c line x fx) (λ v fv.
    after_holds (RvalueFits c) (OperandFits c) (valued line y) _ (valued_fits c line y fy) (λ w fw. conditional_values_made c line b v w fb fv fw)))
