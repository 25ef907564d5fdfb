-- What operators make of integers fits.
use Rattle.std.proofs.Common.{◌≡◌, ℕ, Bool, true, false, ◌&&◌, if◌then◌else◌, [], ◌∷◌, Option, Some, None, Ok, sym, refl, subst}
use Rattle.wp_base.specs.declared.kinds.Kind.{Kind}
use Rattle.wp_base.specs.declared.kinds.Kind.TheVariants as kind
use Rattle.c_kinds.specs.declared.models.Machdep.{Machdep}
use Rattle.c_kinds.specs.Conversions.{promote, common}
use Rattle.c_syntax.specs.declared.expr.UnOp.{UnOp}
use Rattle.c_syntax.specs.declared.expr.UnOp.TheVariants as un
use Rattle.c_syntax.specs.declared.expr.BinOp.{BinOp}
use Rattle.c_answers.specs.Answers.{wrong}
use Rattle.typed_prog.specs.declared.types.CoreType.{CoreType}
use Rattle.typed_prog.specs.declared.operators.Arithmetic.{Arithmetic}
use Rattle.typed_prog.specs.declared.operators.Comparison.{Comparison}
use Rattle.typed_prog.specs.declared.operators.Connective.{Connective}
use Rattle.typed_prog.specs.declared.operators.Op.{Op}
use Rattle.typed_prog.specs.declared.operators.Op.TheVariants as op
use Rattle.typed_prog.specs.Types.{of_kind}
use Rattle.typed_prog.specs.Tree as t
use Rattle.c_operands.specs.Operands.{Operand, Rvalue, valued}
use Rattle.c_operands.specs.Conversions.{kind_of_value}
use Rattle.c_rules.specs.Integers.{constant_in, known_of_one, known_of_two, of_one, promoted_by, plus_by, of_two, arithmetic_by, arithmetic, shift_by, shift, compared}
use Rattle.c_rules.specs.Operators.{is_scalar, scalar, minus, complement, unary_plus, not_of, logic}
use Rattle.c_places.specs.Changes.{is_shift}
use Rattle.c_exprs.specs.Typing.{Around}
use Rattle.c_well_typed.specs.Operators.{IsScalar, SecondFits, OpFits}
use Rattle.c_well_typed.specs.WellTyped.{OperandFits, ValueFits}
use Rattle.c_well_typed.proofs.Types.{promoted_is, common_is}
use Rattle.c_well_typed.proofs.Fitting.{Holds, after_holds, Made, RvalueFits, folded_fits, converted_fits, valued_fits}

-- ---- one operand

of_one_fits : (c : Around) (m : Machdep) (line : ℕ) (o : Op) (how : UnOp) (k j : Kind) (v : Rvalue) → RvalueFits c v → kind_of_value v.value ≡ Some j
    → ((a : CoreType) → a ≡ of_kind k → OpFits c o (a ∷ []) (of_kind k)) → OperandFits c (of_one m line o how k v)
of_one_fits c m line o how k j v fits is more =
    let made = converted_fits c m k j v.value fits is in folded_fits c k line _ v.is_constant (known_of_one m how (constant_in v)) ((made.0, tt), more _ made.1)

promoted_fits : (c : Around) (m : Machdep) (line : ℕ) (o : Op) (how : UnOp) (v : Rvalue) (j : Option Kind) → RvalueFits c v → kind_of_value v.value ≡ j
    → ((k : Kind) (a : CoreType) → a ≡ of_kind (promote k) → OpFits c o (a ∷ []) (of_kind (promote k))) → Made c (promoted_by m line o how v j)
promoted_fits c m line o how v None fits is more = tt
promoted_fits c m line o how v (Some k) fits is more = of_one_fits c m line o how (promote k) k v fits is (more k)

pub minus_made : (c : Around) (m : Machdep) (line : ℕ) (x : Operand) → OperandFits c x → Made c (minus m line x)
unfolding minus
minus_made c m line x fits =
    after_holds (RvalueFits c) (OperandFits c) (valued line x) _ (valued_fits c line x fits)
    (λ v fv. promoted_fits c m line op.Negate un.Minus v _ fv refl (λ k a e. (sym e, (promote k, e, promoted_is k))))

pub complement_made : (c : Around) (m : Machdep) (line : ℕ) (x : Operand) → OperandFits c x → Made c (complement m line x)
unfolding complement
complement_made c m line x fits =
    after_holds (RvalueFits c) (OperandFits c) (valued line x) _ (valued_fits c line x fits)
    (λ v fv. promoted_fits c m line op.Complement un.BitNot v _ fv refl (λ k a e. (sym e, (promote k, e, promoted_is k))))

plus_fits : (c : Around) (m : Machdep) (line : ℕ) (v : Rvalue) (j : Option Kind) → RvalueFits c v → kind_of_value v.value ≡ j → Made c (plus_by m line v j)
plus_fits c m line v None fits is = tt
plus_fits c m line v (Some k) fits is = (converted_fits c m (promote k) k v.value fits is).0

pub plus_made : (c : Around) (m : Machdep) (line : ℕ) (x : Operand) → OperandFits c x → Made c (unary_plus m line x)
unfolding unary_plus
plus_made c m line x fits = after_holds (RvalueFits c) (OperandFits c) (valued line x) _ (valued_fits c line x fits) (λ v fv. plus_fits c m line v _ fv refl)

-- ---- scalars

abbrev pub ScalarFits : Around → Rvalue → Type 0
ScalarFits c v = ValueFits c v.value × IsScalar (t.type_of v.value)

scalar_by : (c : Around) (line : ℕ) (v : Rvalue) (b : Bool) → RvalueFits c v → is_scalar (t.type_of v.value) ≡ b
    → Holds (ScalarFits c) (if b then Ok v else wrong line)
scalar_by c line v true fits e = (fits, e)
scalar_by c line v false fits e = tt

pub scalar_fits : (c : Around) (line : ℕ) (v : Rvalue) → RvalueFits c v → Holds (ScalarFits c) (scalar line v)
scalar_fits c line v fits = scalar_by c line v (is_scalar (t.type_of v.value)) fits refl

pub not_made : (c : Around) (m : Machdep) (line : ℕ) (x : Operand) → OperandFits c x → Made c (not_of m line x)
unfolding not_of
not_made c m line x fits =
    after_holds (RvalueFits c) (OperandFits c) (valued line x) _ (valued_fits c line x fits) (λ v fv.
    after_holds (ScalarFits c) (OperandFits c) (scalar line v) _ (scalar_fits c line v fv)
    (λ w fw. folded_fits c kind.Int line _ w.is_constant (known_of_one m un.Not (constant_in w)) ((fw.0, tt), (fw.1, refl))))

pub logic_made : (c : Around) (m : Machdep) (line : ℕ) (how : Connective) (o : BinOp) (v w : Rvalue) → RvalueFits c v → RvalueFits c w
    → Made c (logic m line how o v w)
unfolding logic
logic_made c m line how o v w fv fw =
    after_holds (ScalarFits c) (OperandFits c) (scalar line v) _ (scalar_fits c line v fv) (λ x fx.
    after_holds (ScalarFits c) (OperandFits c) (scalar line w) _ (scalar_fits c line w fw)
    (λ y fy. folded_fits c kind.Int line _ (x.is_constant && y.is_constant) (known_of_two m o (constant_in x) (constant_in y)) (fx.0, fy.0, fx.1, fy.1, refl)))

-- ---- two operands

of_two_fits : (c : Around) (m : Machdep) (line : ℕ) (o : Op) (how : BinOp) (k j l jk lk : Kind) (v w : Rvalue) → RvalueFits c v → RvalueFits c w
    → kind_of_value v.value ≡ Some jk
    → kind_of_value w.value ≡ Some lk → ((a b : CoreType) → a ≡ of_kind j → b ≡ of_kind l → OpFits c o (a ∷ b ∷ []) (of_kind k))
    → OperandFits c (of_two m line o how k j l v w)
of_two_fits c m line o how k j l jk lk v w fv fw ev ew more =
    let p = converted_fits c m j jk v.value fv ev in let q = converted_fits c m l lk w.value fw ew in
    folded_fits c k line _ (v.is_constant && w.is_constant) (known_of_two m how (constant_in v) (constant_in w)) ((p.0, (q.0, tt)), more _ _ p.1 q.1)

arithmetic_by_made : (c : Around) (m : Machdep) (line : ℕ) (o : Arithmetic) (how : BinOp) (v w : Rvalue) (j k : Option Kind) → is_shift o ≡ false
    → RvalueFits c v → RvalueFits c w
    → kind_of_value v.value ≡ j → kind_of_value w.value ≡ k → Made c (arithmetic_by m line o how v w j k)
arithmetic_by_made c m line o how v w None k plain fv fw ev ew = tt
arithmetic_by_made c m line o how v w (Some j) None plain fv fw ev ew = tt
arithmetic_by_made c m line o how v w (Some j) (Some k) plain fv fw ev ew =
    of_two_fits c m line (op.Arithmetic o) how (common m j k) (common m j k) (common m j k) j k v w fv fw ev ew (λ a b ea eb.
    record { of = common m j k; promoted = common_is m j k; result = refl; first = ea; second = subst (λ s. SecondFits s (common m j k) b) (sym plain) eb })

pub arithmetic_made : (c : Around) (m : Machdep) (line : ℕ) (o : Arithmetic) (how : BinOp) (v w : Rvalue) → is_shift o ≡ false → RvalueFits c v → RvalueFits c w
    → Made c (arithmetic m line o how v w)
arithmetic_made c m line o how v w plain fv fw = arithmetic_by_made c m line o how v w _ _ plain fv fw refl refl

shift_by_made : (c : Around) (m : Machdep) (line : ℕ) (o : Arithmetic) (how : BinOp) (v w : Rvalue) (j k : Option Kind) → is_shift o ≡ true → RvalueFits c v
    → RvalueFits c w
    → kind_of_value v.value ≡ j → kind_of_value w.value ≡ k → Made c (shift_by m line o how v w j k)
shift_by_made c m line o how v w None k shifts fv fw ev ew = tt
shift_by_made c m line o how v w (Some j) None shifts fv fw ev ew = tt
shift_by_made c m line o how v w (Some j) (Some k) shifts fv fw ev ew =
    of_two_fits c m line (op.Arithmetic o) how (promote j) (promote j) (promote k) j k v w fv fw ev ew (λ a b ea eb.
    record {
      of = promote j;
      promoted = promoted_is j;
      result = refl;
      first = ea;
      second = subst (λ s. SecondFits s (promote j) b) (sym shifts) (promote k, eb, promoted_is k);
    })

pub shift_made : (c : Around) (m : Machdep) (line : ℕ) (o : Arithmetic) (how : BinOp) (v w : Rvalue) → is_shift o ≡ true → RvalueFits c v → RvalueFits c w
    → Made c (shift m line o how v w)
shift_made c m line o how v w shifts fv fw = shift_by_made c m line o how v w _ _ shifts fv fw refl refl

pub compared_fits : (c : Around) (m : Machdep) (line : ℕ) (how : Comparison) (o : BinOp) (v w : Rvalue) (j k : Kind) → RvalueFits c v → RvalueFits c w
    → kind_of_value v.value ≡ Some j → kind_of_value w.value ≡ Some k → OperandFits c (compared m line how o v w j k)
compared_fits c m line how o v w j k fv fw ev ew =
    of_two_fits c m line (op.Compare how) o kind.Int (common m j k) (common m j k) j k v w fv fw ev ew (λ a b ea eb.
    record { of = common m j k; promoted = common_is m j k; first = ea; second = eb; result = refl })
