-- Operators that fit are typed by the kinds of cells, and so are expressions.
use Rattle.std.proofs.Common.{◌≡◌, ℕ, Bool, true, false, List, sym, ap, subst, ◌∙◌, ◌⊎◌, inl, inr}
use Rattle.wp_base.specs.declared.kinds.Kind.{Kind}
use Rattle.wp_base.specs.declared.kinds.Kind.TheVariants as kind
use Rattle.c_kinds.specs.Models.{difference_kind}
use Rattle.typed_prog.specs.declared.types.CoreType.{CoreType}
use Rattle.typed_prog.specs.declared.operators.Arithmetic.{Arithmetic}
use Rattle.typed_prog.specs.declared.operators.Arithmetic.TheVariants as ar
use Rattle.typed_prog.specs.declared.operators.Comparison.{Comparison}
use Rattle.typed_prog.specs.declared.operators.Op.{Op}
use Rattle.typed_prog.specs.declared.operators.Op.TheVariants as op
use Rattle.typed_prog.specs.Types.{of_kind, void, pointer_to, is_pointer}
use Rattle.typed_prog.specs.Tree as t
use Rattle.c_scopes.specs.declared.symbols.Resolved.{Resolved}
use Rattle.c_exprs.specs.Typing.{Around}
use Rattle.c_well_typed.specs.Paths.{IsInteger as IsNumber}
use Rattle.c_well_typed.specs.Operators.{IsPromotedInteger, IsScalar, AreAlike, IsMovable, OfOne, OfTwo, IsArithmetic, IsComparison, IsMoved, Moves, IsRequalified, OpFits}
use Rattle.c_well_typed.specs.WellTyped as fits
use Rattle.c_well_typed.specs.WellTyped.{types_of, ValueFits, ValuesFit}
use Rattle.c_runs.specs.Program.{Facts, Variable}
use Rattle.c_runs.specs.Values.{kind_at}
use Rattle.value_terms.specs.Typed.{Scope, IsInteger, kind_given, operand_kind, second_is, OpIsTyped}
use Rattle.typed_values.specs.Kinds.{TargetIsKnown}
use Rattle.typed_values.specs.Declared.{Meets}
use Rattle.typed_values.specs.Values.{OpStands, AreKnown, NodeStands, ValueStands, AllStand, NodeFits, CoreFits, AllFit, OpIs, OperatorsAreTyped, ValueIs, CoreValuesAreTyped, ValuesAre, OperandsAreTyped, WellTypedAreTyped}
use Rattle.typed_values.proofs.Types.{number_is, of_promoted, pointer_given, const_pointer, target_pointer, pointer_blocks, const_known}
use Rattle.typed_values.proofs.Ways.{IsSound}
use Rattle.typed_values.proofs.Reading.{value_typed, pointer_typed}

-- ---- operators on integers

second_of : (o : Arithmetic) (a b type : CoreType) → IsArithmetic o a b type → second_is o (kind_given type) (kind_given b)
second_of ar.Shl a b type h = tt
second_of ar.Shr a b type h = tt
second_of ar.Mul a b type h = ap kind_given h.second ∙ sym (ap kind_given h.result)
second_of ar.Div a b type h = ap kind_given h.second ∙ sym (ap kind_given h.result)
second_of ar.Rem a b type h = ap kind_given h.second ∙ sym (ap kind_given h.result)
second_of ar.Add a b type h = ap kind_given h.second ∙ sym (ap kind_given h.result)
second_of ar.Sub a b type h = ap kind_given h.second ∙ sym (ap kind_given h.result)
second_of ar.And a b type h = ap kind_given h.second ∙ sym (ap kind_given h.result)
second_of ar.Xor a b type h = ap kind_given h.second ∙ sym (ap kind_given h.result)
second_of ar.Or a b type h = ap kind_given h.second ∙ sym (ap kind_given h.result)

module _ (p : Facts) (xs : List Variable) (s : Scope) where
  -- an integer, and no value, lead nowhere
  number_known : (type : CoreType) (k : Kind) → type ≡ of_kind k → TargetIsKnown s type
  number_known type k h = subst (TargetIsKnown s) (sym h) tt

  integer_known : (type : CoreType) → IsNumber type → TargetIsKnown s type
  integer_known type h = let n = number_is type h in number_known type n.0 n.1

  no_pointer : (type : CoreType) (k : Kind) → type ≡ of_kind k → is_pointer type ≡ false
  no_pointer type k h = ap is_pointer h

  number_op : (o : Op) (es : t.Values) (type : CoreType) (k : Kind) → type ≡ of_kind k → OpIsTyped p xs s type o es → OpIs p xs s type o es
  number_op o es type k h typed = record { typed = typed; known = number_known type k h }

  -- ---- one operand

  record OneIs (type : CoreType) (es : t.Values) : Type 0 where
    pub typed : IsInteger type × (operand_kind es 0 ≡ kind_given type)
    pub known : TargetIsKnown s type

  one_operand : (type : CoreType) (es : t.Values) → OfOne (types_of es) (λ a. (type ≡ a) × IsPromotedInteger a) → OneIs type es
  one_operand type t.stop h = elim h [ ]
  one_operand type (t.more a (t.more b es)) h = elim h [ ]
  one_operand type (t.more a t.stop) h =
      record { typed = (of_promoted type h.1.0 (h.0 ∙ h.1.1) h.1.2, ap kind_given (sym h.0)); known = number_known type h.1.0 (h.0 ∙ h.1.1) }

  not_is : (es : t.Values) (type : CoreType) → OfOne (types_of es) (λ a. IsScalar a × (type ≡ of_kind kind.Int)) → OpIs p xs s type op.Not es
  not_is t.stop type h = elim h [ ]
  not_is (t.more a (t.more b es)) type h = elim h [ ]
  not_is (t.more a t.stop) type h = number_op op.Not (t.more a t.stop) type kind.Int h.1 (no_pointer type kind.Int h.1)

  convert_is : (es : t.Values) (type : CoreType) → OfOne (types_of es) (λ a. IsNumber a × IsNumber type) → OpIs p xs s type op.Convert es
  convert_is t.stop type h = elim h [ ]
  convert_is (t.more a (t.more b es)) type h = elim h [ ]
  convert_is (t.more a t.stop) type h = let n = number_is type h.1 in number_op op.Convert (t.more a t.stop) type n.0 n.1 (no_pointer type n.0 n.1)

  cast_is : (es : t.Values) (type : CoreType) → OfOne (types_of es) (λ a. (IsNumber a × IsNumber type) ⊎ (type ≡ void)) → OpIs p xs s type op.Cast es
  cast_is t.stop type h = elim h [ ]
  cast_is (t.more a (t.more b es)) type h = elim h [ ]
  cast_is (t.more a t.stop) type (inl h) = let n = number_is type h.1 in number_op op.Cast (t.more a t.stop) type n.0 n.1 (no_pointer type n.0 n.1)
  cast_is (t.more a t.stop) type (inr h) = record { typed = ap is_pointer h; known = subst (TargetIsKnown s) (sym h) tt }

  requalified_is : (es : t.Values) (type : CoreType) → AreKnown p xs s es → OfOne (types_of es) (λ a. IsRequalified a type) → OpIs p xs s type op.Requalify es
  requalified_is t.stop type known h = elim h [ ]
  requalified_is (t.more a (t.more b es)) type known h = elim h [ ]
  requalified_is (t.more a t.stop) type known h =
      record {
        typed = pointer_given (t.type_of a) h.pointer ∙ sym (pointer_given type (ap is_pointer h.same ∙ const_pointer (t.type_of a) h.pointer));
        known = subst (TargetIsKnown s) (sym h.same) (const_known s (t.type_of a) known.0);
      }

  -- ---- two operands

  arithmetic_is : (o : Arithmetic) (es : t.Values) (type : CoreType) → OfTwo (types_of es) (λ a b. IsArithmetic o a b type) → OpIs p xs s type (op.Arithmetic o) es
  arithmetic_is o t.stop type h = elim h [ ]
  arithmetic_is o (t.more a t.stop) type h = elim h [ ]
  arithmetic_is o (t.more a (t.more b (t.more d es))) type h = elim h [ ]
  arithmetic_is o (t.more a (t.more b t.stop)) type h =
      number_op (op.Arithmetic o) (t.more a (t.more b t.stop)) type h.of h.result
      (of_promoted type h.of h.result h.promoted, ap kind_given (h.first ∙ sym h.result), second_of o (t.type_of a) (t.type_of b) type h)

  moved_is : (c : Around) (size : ℕ) (a b type : CoreType) → IsMoved c size a b type → is_pointer a ≡ true
  moved_is c size a b type h = target_pointer a (h.movable.to, h.movable.is_const) h.movable.leads

  offset_is : (c : Around) (minus index_first : Bool) (size : ℕ) (accessed : Bool) (es : t.Values) (type : CoreType) → AreKnown p xs s es
      → OfTwo (types_of es) (λ a b. Moves c index_first size a b type) → OpIs p xs s type (op.Offset minus index_first size accessed) es
  offset_is c minus index_first size accessed t.stop type known h = elim h [ ]
  offset_is c minus index_first size accessed (t.more a t.stop) type known h = elim h [ ]
  offset_is c minus index_first size accessed (t.more a (t.more b (t.more d es))) type known h = elim h [ ]
  offset_is c minus false size accessed (t.more a (t.more b t.stop)) type known h =
      let pointer = moved_is c size (t.type_of a) (t.type_of b) type h in
      record {
        typed = (ap is_pointer h.same ∙ pointer, pointer_blocks s (t.type_of a) pointer known.0, pointer_given (t.type_of a) pointer);
        known = subst (TargetIsKnown s) (sym h.same) known.0;
      }
  offset_is c minus true size accessed (t.more a (t.more b t.stop)) type known h =
      let pointer = moved_is c size (t.type_of b) (t.type_of a) type h in
      record {
        typed = (ap is_pointer h.same ∙ pointer, pointer_blocks s (t.type_of b) pointer known.1.0, pointer_given (t.type_of b) pointer);
        known = subst (TargetIsKnown s) (sym h.same) known.1.0;
      }

  compare_is : (how : Comparison) (es : t.Values) (type : CoreType) → OfTwo (types_of es) (λ a b. IsComparison a b type) → OpIs p xs s type (op.Compare how) es
  compare_is how t.stop type h = elim h [ ]
  compare_is how (t.more a t.stop) type h = elim h [ ]
  compare_is how (t.more a (t.more b (t.more d es))) type h = elim h [ ]
  compare_is how (t.more a (t.more b t.stop)) type h = number_op (op.Compare how) (t.more a (t.more b t.stop)) type kind.Int h.result (no_pointer type kind.Int h.result)

  pointers_is : (how : Comparison) (es : t.Values) (type : CoreType) → AreKnown p xs s es → OfTwo (types_of es) (λ a b. AreAlike a b × (type ≡ of_kind kind.Int))
      → OpIs p xs s type (op.ComparePointers how) es
  pointers_is how t.stop type known h = elim h [ ]
  pointers_is how (t.more a t.stop) type known h = elim h [ ]
  pointers_is how (t.more a (t.more b (t.more d es))) type known h = elim h [ ]
  pointers_is how (t.more a (t.more b t.stop)) type known h =
      number_op (op.ComparePointers how) (t.more a (t.more b t.stop)) type kind.Int h.1
      (no_pointer type kind.Int h.1, pointer_blocks s (t.type_of a) h.0.0 known.0)

  module _ (c : Around) (meets : Meets c p xs s) where
    difference_is : (size : ℕ) (es : t.Values) (type : CoreType) → AreKnown p xs s es
        → OfTwo (types_of es) (λ a b. AreAlike a b × IsMovable c size a × (type ≡ of_kind (difference_kind c.model))) → OpIs p xs s type (op.Difference size) es
    difference_is size t.stop type known h = elim h [ ]
    difference_is size (t.more a t.stop) type known h = elim h [ ]
    difference_is size (t.more a (t.more b (t.more d es))) type known h = elim h [ ]
    difference_is size (t.more a (t.more b t.stop)) type known h =
        number_op (op.Difference size) (t.more a (t.more b t.stop)) type (difference_kind c.model) h.2 (
          no_pointer type (difference_kind c.model) h.2,
          pointer_blocks s (t.type_of a) h.0.0 known.0,
          ap kind_at h.2 ∙ ap difference_kind (sym meets.model),
        )

    -- ---- pointers to objects

    made_is : (o : Op) (es : t.Values) (type : CoreType) (to : Resolved) → type ≡ pointer_to to.ty to.is_const → s.has_blocks ≡ true → IsSound s to.ty
        → (is_pointer type ≡ true → OpIsTyped p xs s type o es) → OpIs p xs s type o es
    made_is o es type to same blocks sound typed =
        record { typed = typed (ap is_pointer same); known = subst (TargetIsKnown s) (sym same) (blocks, sound.known) }

    op_is : (o : Op) (es : t.Values) (type : CoreType) → OpFits c o (types_of es) type → AreKnown p xs s es → OpStands p xs s o → OpIs p xs s type o es
    op_is (op.Read path) es type h known stands =
        let way = value_typed p xs s c meets es path type h known stands.0 stands.1 in record { typed = way.typed; known = way.known }
    op_is (op.Address path accessed) es type h known stands =
        let start = pointer_typed p xs s c meets es path h.to h.reaches known stands.0 stands.1 in
        made_is (op.Address path accessed) es type h.to h.same start.blocks start.sound (λ pointer. (pointer, start.blocks, start.typed))
    op_is (op.Decay path accessed) es type h known stands =
        let start = pointer_typed p xs s c meets es path h.to h.reaches known stands.0 stands.1 in
        made_is (op.Decay path accessed) es type h.to h.same start.blocks start.sound (λ pointer. (pointer, start.blocks, start.typed))
    op_is op.Negate es type h known stands = let one = one_operand type es h in record { typed = one.typed; known = one.known }
    op_is op.Complement es type h known stands = let one = one_operand type es h in record { typed = one.typed; known = one.known }
    op_is op.Not es type h known stands = not_is es type h
    op_is (op.Arithmetic o) es type h known stands = arithmetic_is o es type h
    op_is (op.Compare how) es type h known stands = compare_is how es type h
    op_is (op.ComparePointers how) es type h known stands = pointers_is how es type known h
    op_is (op.Offset minus index_first size accessed) es type h known stands = offset_is c minus index_first size accessed es type known h
    op_is (op.Difference size) es type h known stands = difference_is size es type known h
    op_is op.Convert es type h known stands = convert_is es type h
    op_is op.Requalify es type h known stands = requalified_is es type known h
    op_is op.Cast es type h known stands = cast_is es type h

    -- ---- expressions

    mutual
      node_is : (node : t.ValueNode) (type : CoreType) (line : ℕ) → NodeFits p xs s c type node → NodeStands p xs s type node → ValueIs p xs s (t.typed node type line)
      node_is (t.constant z) type line h stands =
          let n = number_is type h in record { typed = (no_pointer type n.0 n.1, stands); known = number_known type n.0 n.1 }
      node_is t.null type line h stands = record { typed = h; known = stands }
      node_is (t.temporary n) type line h stands = record { typed = stands.0; known = stands.1 }
      node_is (t.apply o es) type line h stands =
          let all = values_are es h.0 stands.1 in
          let is = op_is o es type h.1 all.known stands.0 in record { typed = (all.typed, is.typed); known = is.known }
      node_is (t.logic how a b) type line h stands = elim h [ ]
      node_is (t.choose test a b) type line h stands = elim h [ ]
      node_is (t.effect e es) type line h stands = elim h [ ]

      value_is : (v : t.Value) → CoreFits p xs s c v → ValueStands p xs s v → ValueIs p xs s v
      value_is (t.typed node type line) h stands = node_is node type line h stands

      values_are : (es : t.Values) → AllFit p xs s c es → AllStand p xs s es → ValuesAre p xs s es
      values_are t.stop h stands = record { typed = tt; known = tt }
      values_are (t.more e es) h stands =
          let first = value_is e h.0 stands.0 in
          let rest = values_are es h.1 stands.1 in record { typed = (first.typed, rest.typed); known = (first.known, rest.known) }

    -- what is well typed and stands has neither temporaries nor effects
    mutual
      node_fits : (node : t.ValueNode) (type : CoreType) → fits.NodeFits c node type → NodeStands p xs s type node → NodeFits p xs s c type node
      node_fits (t.constant z) type h stands = h
      node_fits t.null type h stands = h
      node_fits (t.temporary n) type h stands = elim h [ ]
      node_fits (t.apply o es) type h stands = (all_fit es h.0 stands.1, h.1)
      node_fits (t.logic how a b) type h stands = elim stands [ ]
      node_fits (t.choose test a b) type h stands = elim stands [ ]
      node_fits (t.effect e es) type h stands = elim stands [ ]

      core_fits : (v : t.Value) → ValueFits c v → ValueStands p xs s v → CoreFits p xs s c v
      core_fits (t.typed node type line) h stands = node_fits node type h stands

      all_fit : (es : t.Values) → ValuesFit c es → AllStand p xs s es → AllFit p xs s c es
      all_fit t.stop h stands = tt
      all_fit (t.more e es) h stands = (core_fits e h.0 stands.0, all_fit es h.1 stands.1)

pub operators_are_typed : OperatorsAreTyped
operators_are_typed p xs s c meets o es type h known stands = op_is p xs s c meets o es type h known stands

pub core_values_are_typed : CoreValuesAreTyped
core_values_are_typed p xs s c meets v h stands = value_is p xs s c meets v h stands

pub operands_are_typed : OperandsAreTyped
operands_are_typed p xs s c meets es h stands = values_are p xs s c meets es h stands

pub well_typed_are_typed : WellTypedAreTyped
well_typed_are_typed p xs s c meets v h stands = value_is p xs s c meets v (core_fits p xs s c meets v h stands) stands
