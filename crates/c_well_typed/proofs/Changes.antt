-- What changes an object fits, and so does a cast.
use Rattle.std.proofs.Common.{◌≡◌, ℕ, pos, Bool, true, false, Option, Some, None, refl, inl, inr}
use Rattle.wp_base.specs.declared.kinds.Kind.{Kind}
use Rattle.wp_base.specs.declared.kinds.Kind.TheVariants as kind
use Rattle.c_kinds.specs.declared.models.Machdep.{Machdep}
use Rattle.c_kinds.specs.Conversions.{promote, common}
use Rattle.c_syntax.specs.declared.expr.BinOp.{BinOp}
use Rattle.typed_prog.specs.declared.types.CoreType.{CoreType}
use Rattle.typed_prog.specs.declared.operators.Arithmetic.{Arithmetic}
use Rattle.typed_prog.specs.declared.operators.UpdateForm.{UpdateForm}
use Rattle.typed_prog.specs.Types.{of_kind, kind_of, is_pointer, is_void}
use Rattle.typed_prog.specs.Tree as t
use Rattle.c_operands.specs.Operands.{Operand, object, value, Place, Rvalue, valued}
use Rattle.c_operands.specs.Conversions.{kind_of_value, assignable, is_zero, number_of}
use Rattle.c_rules.specs.Integers.{constant_in}
use Rattle.c_rules.specs.Pointers.{stride}
use Rattle.c_rules.specs.Operators.{is_scalar}
use Rattle.c_places.specs.Changes.{modifiable_by, modifiable, assigned_value, assigned, arithmetic_of, is_shift, computed_in, operand_in, integer_update, moves, pointer_update_by, updated_by, updated, compound_by, compound, step_operator, step_form, stepped}
use Rattle.c_places.specs.Casts.{known_by, to_kind_by, to_pointer_by, cast_by, cast}
use Rattle.c_exprs.specs.Typing.{Around}
use Rattle.c_well_typed.specs.Operators.{IsPromoted, SecondFits, IsChangeable}
use Rattle.c_well_typed.specs.WellTyped.{types_of, ValueFits, ValuesFit, OperandFits}
use Rattle.c_well_typed.proofs.Types.{type_is, void_is, promoted_is, common_is, movable_is}
use Rattle.c_well_typed.proofs.Fitting.{Holds, after_holds, Made, RvalueFits, FitsAs, number_fits, folded_fits, converted_fits, valued_fits, assignable_fits}

-- ---- which objects may be changed

abbrev PlaceFits : Around → Place → Type 0
PlaceFits c p = ValuesFit c (t.values_of p.operands) × IsChangeable c (types_of (t.values_of p.operands)) p.path p.type

modifiable_by_fits : (c : Around) (line : ℕ) (p : Place) (is_const scalar : Bool) → OperandFits c (object p is_const) → is_scalar p.type ≡ scalar
    → Holds (PlaceFits c) (modifiable_by line p is_const scalar)
modifiable_by_fits c line p true scalar fits e = tt
modifiable_by_fits c line p false false fits e = tt
modifiable_by_fits c line p false true fits e = (fits.0, record { reaches = fits.1; scalar = e })

modifiable_fits : (c : Around) (line : ℕ) (x : Operand) → OperandFits c x → Holds (PlaceFits c) (modifiable line x)
unfolding modifiable
modifiable_fits c line (object p is_const) fits = modifiable_by_fits c line p is_const _ fits refl
modifiable_fits c line (value v is_constant) fits = tt

-- ---- `=`

assigned_value_made : (c : Around) (m : Machdep) (line : ℕ) (p : Place) (v : Rvalue) → PlaceFits c p → RvalueFits c v → Made c (assigned_value m line p v)
assigned_value_made c m line p v fp fv =
    after_holds (FitsAs c p.type) (OperandFits c) (assignable m line p.type v.value) _ (assignable_fits c m line p.type v.value fv) (λ w fw.
    ((fw.0, fp.0), (fp.1, fw.1)))

pub assigned_made : (c : Around) (m : Machdep) (line : ℕ) (x y : Operand) → OperandFits c x → OperandFits c y → Made c (assigned m line x y)
unfolding assigned
assigned_made c m line x y fx fy =
    after_holds (PlaceFits c) (OperandFits c) (modifiable line x) _ (modifiable_fits c line x fx) (λ p fp.
    after_holds (RvalueFits c) (OperandFits c) (valued line y) _ (valued_fits c line y fy) (λ v fv. assigned_value_made c m line p v fp fv))

-- ---- updates

computed_is : (m : Machdep) (shift : Bool) (j k : Kind) → IsPromoted (computed_in m shift j k)
computed_is m true j k = promoted_is j
computed_is m false j k = common_is m j k

shifted_is : (m : Machdep) (shift : Bool) (j k : Kind) → shift ≡ true → computed_in m shift j k ≡ promote j
shifted_is m true j k h = refl
shifted_is m false j k h = absurd cc

joined_is : (m : Machdep) (shift : Bool) (j k : Kind) → shift ≡ false → (l : Kind) × (computed_in m shift j k ≡ common m j l)
joined_is m true j k h = absurd cc
joined_is m false j k h = (k, refl)

second_is : (m : Machdep) (shift : Bool) (j k : Kind) (a : CoreType) → a ≡ of_kind (operand_in m shift j k) → SecondFits shift (computed_in m shift j k) a
second_is m true j k a e = (promote k, e, promoted_is k)
second_is m false j k a e = e

integer_update_fits : (c : Around) (line : ℕ) (o : Arithmetic) (how : UpdateForm) (p : Place) (v : t.Value) (j k : Kind) → PlaceFits c p
    → ValueFits c v
    → kind_of p.type ≡ Some j → kind_of_value v ≡ Some k → OperandFits c (integer_update c.model line o how p v j k)
integer_update_fits c line o how p v j k fp fv ep ev =
    let made = converted_fits c c.model (operand_in c.model (is_shift o) j k) k v fv ev in (
      (made.0, fp.0),
      (
        fp.1,
        record {
          of = j;
          integer = type_is p.type j ep;
          promoted = computed_is c.model (is_shift o) j k;
          shifted = shifted_is c.model (is_shift o) j k;
          joined = joined_is c.model (is_shift o) j k;
          second = second_is c.model (is_shift o) j k _ made.1;
        },
      ),
    )

pointer_update_made : (c : Around) (line : ℕ) (how : UpdateForm) (p : Place) (v : t.Value) (k : Kind) (minus : Option Bool) (size : Option ℕ) → PlaceFits c p
    → ValueFits c v
    → kind_of_value v ≡ Some k → stride c.sizes p.type ≡ size → Made c (pointer_update_by line how p v minus size)
pointer_update_made c line how p v k None size fp fv ev es = tt
pointer_update_made c line how p v k (Some minus) None fp fv ev es = tt
pointer_update_made c line how p v k (Some minus) (Some size) fp fv ev es =
    ((fv, fp.0), (fp.1, record { same = refl; movable = movable_is c p.type size es; integer = (k, ev) }))

updated_by_made : (c : Around) (line : ℕ) (o : Arithmetic) (how : UpdateForm) (p : Place) (v : t.Value) (j k : Option Kind) → PlaceFits c p
    → ValueFits c v
    → kind_of p.type ≡ j → kind_of_value v ≡ k → Made c (updated_by c.model c.sizes line o how p v j k)
updated_by_made c line o how p v (Some j) (Some k) fp fv ep ev = integer_update_fits c line o how p v j k fp fv ep ev
updated_by_made c line o how p v None (Some k) fp fv ep ev = pointer_update_made c line how p v k (moves o) _ fp fv ev refl
updated_by_made c line o how p v None None fp fv ep ev = tt
updated_by_made c line o how p v (Some j) None fp fv ep ev = tt

updated_made : (c : Around) (line : ℕ) (o : Arithmetic) (how : UpdateForm) (p : Place) (v : t.Value) → PlaceFits c p → ValueFits c v
    → Made c (updated c.model c.sizes line o how p v)
unfolding updated
updated_made c line o how p v fp fv = updated_by_made c line o how p v _ _ fp fv refl refl

compound_by_made : (c : Around) (line : ℕ) (o : Option Arithmetic) (p : Place) (v : Rvalue) → PlaceFits c p → RvalueFits c v
    → Made c (compound_by c.model c.sizes line o p v)
compound_by_made c line None p v fp fv = tt
compound_by_made c line (Some o) p v fp fv = updated_made c line o _ p v.value fp fv

pub compound_made : (c : Around) (line : ℕ) (o : BinOp) (x y : Operand) → OperandFits c x → OperandFits c y
    → Made c (compound c.model c.sizes line o x y)
unfolding compound
compound_made c line o x y fx fy =
    after_holds (PlaceFits c) (OperandFits c) (modifiable line x) _ (modifiable_fits c line x fx) (λ p fp.
    after_holds (RvalueFits c) (OperandFits c) (valued line y) _ (valued_fits c line y fy) (λ v fv. compound_by_made c line (arithmetic_of o) p v fp fv))

pub stepped_made : (c : Around) (line : ℕ) (up prefix : Bool) (x : Operand) → OperandFits c x → Made c (stepped c.model c.sizes line up prefix x)
unfolding stepped
stepped_made c line up prefix x fx =
    after_holds (PlaceFits c) (OperandFits c) (modifiable line x) _ (modifiable_fits c line x fx)
    (λ p fp. updated_made c line (step_operator up) (step_form prefix) p _ fp (number_fits c kind.Int (pos 1) line).0)

-- ---- casts

to_kind_made : (c : Around) (m : Machdep) (line : ℕ) (k : Kind) (v : Rvalue) (j : Option Kind) → RvalueFits c v → kind_of_value v.value ≡ j
    → Made c (to_kind_by m line k v j)
to_kind_made c m line k v None fits e = tt
to_kind_made c m line k v (Some j) fits e = folded_fits c k line _ v.is_constant (known_by m k (constant_in v)) ((fits, tt), inl ((j, e), (k, refl)))

to_pointer_made : (c : Around) (line : ℕ) (type : CoreType) (zero : Bool) → is_pointer type ≡ true → Made c (to_pointer_by line type zero)
to_pointer_made c line type true e = e
to_pointer_made c line type false e = tt

cast_by_made : (c : Around) (m : Machdep) (line : ℕ) (type : CoreType) (v : Rvalue) (k : Option Kind) (pointer is_none : Bool) → RvalueFits c v
    → is_pointer type ≡ pointer
    → is_void type ≡ is_none → Made c (cast_by m line type v k pointer is_none)
cast_by_made c m line type v (Some k) pointer is_none fits ep en = to_kind_made c m line k v _ fits refl
cast_by_made c m line type v None true is_none fits ep en = to_pointer_made c line type (is_zero (number_of v.value)) ep
cast_by_made c m line type v None false true fits ep en = ((fits, tt), inr (void_is type en))
cast_by_made c m line type v None false false fits ep en = tt

pub cast_made : (c : Around) (m : Machdep) (line : ℕ) (type : CoreType) (x : Operand) → OperandFits c x → Made c (cast m line type x)
unfolding cast
cast_made c m line type x fits =
    after_holds (RvalueFits c) (OperandFits c) (valued line x) _ (valued_fits c line x fits)
    (λ v fv. cast_by_made c m line type v (kind_of type) (is_pointer type) (is_void type) fv refl refl)
