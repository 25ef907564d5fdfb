-- Expressions of a core program, told by the rules of C: each node has the type that its parts give it (C11 6.5), and stands where what it names is in scope.
use Rattle.std.specs.Prelude.{◌≡◌, IsTrue, ℕ, Bool, true, false, not, List, [], Some, slice_get}
use Rattle.std.specs.List.{list_all}
use Rattle.c_kinds.specs.Models.{holds}
use Rattle.typed_prog.specs.declared.types.CoreType.{CoreType}
use Rattle.typed_prog.specs.declared.operators.Op.{Op}
use Rattle.typed_prog.specs.declared.operators.Op.TheVariants as op
use Rattle.typed_prog.specs.declared.operators.Path.{Path}
use Rattle.typed_prog.specs.declared.operators.Root.{Root}
use Rattle.typed_prog.specs.declared.operators.Root.TheVariants as root
use Rattle.typed_prog.specs.declared.operators.Step.{Step}
use Rattle.typed_prog.specs.declared.operators.Step.TheVariants as step
use Rattle.typed_prog.specs.declared.operators.Variable.TheVariants as variable
use Rattle.typed_prog.specs.Types.{is_pointer}
use Rattle.typed_prog.specs.Tree as t
use Rattle.c_exprs.specs.Typing.{Around}
use Rattle.c_well_typed.specs.Paths.{IsInteger}
use Rattle.c_well_typed.specs.Operators.{OpFits, IsChangeable}
use Rattle.c_well_typed.specs.WellTyped.{types_of, ValueFits}
use Rattle.c_runs.specs.Program.{Facts, Variable}
use Rattle.c_runs.specs.Objects.{is_plain_in, plain_root}
use Rattle.c_runs.specs.Values.{kind_at}
use Rattle.value_terms.specs.Typed.{Scope, kind_given, OpIsTyped, ReadIsTyped, IsTyped, AreTyped}
use Rattle.typed_values.specs.Kinds.{TargetIsKnown}
use Rattle.typed_values.specs.Declared.{Meets}

-- ---- ways

-- a step to another element than the first of what a pointer leads to (C11 6.5.6p8)
abbrev pub stays : Step → Bool
stays (step.Moved operand size) = false
stays _ = true

-- a way that begins at a variable stays in it
abbrev pub stays_inside : Root → List Step → Bool
stays_inside (root.Variable x) ss = list_all stays ss
stays_inside (root.Pointed n) ss = true

-- a local is named where it is in scope (C11 6.2.1p4)
abbrev pub is_in_scope : Scope → Root → Bool
is_in_scope s (root.Variable (variable.Local x)) = s.is_declared x
is_in_scope s (root.Variable (variable.Global x)) = true
is_in_scope s (root.Pointed n) = true

module _ (p : Facts) (xs : List Variable) where
  -- a pointer may lead there
  abbrev pub is_in_block : Root → Bool
  is_in_block (root.Variable (variable.Local x)) = not (is_plain_in (slice_get xs x))
  is_in_block (root.Variable (variable.Global x)) = not (is_plain_in (slice_get p.globals x))
  is_in_block (root.Pointed n) = true

module _ (p : Facts) (xs : List Variable) (s : Scope) where
  abbrev pub OpStands : Op → Type 0
  OpStands (op.Read path) = (is_in_scope s path.root ≡ true) × (stays_inside path.root path.steps ≡ true)
  OpStands (op.Address path accessed) = (is_in_scope s path.root ≡ true) × (is_in_block p xs path.root ≡ true)
  OpStands (op.Decay path accessed) = (is_in_scope s path.root ≡ true) × (is_in_block p xs path.root ≡ true)
  OpStands _ = Unit {0}

  -- ---- the values that an expression takes

  -- each operand leads to what is spoken of
  abbrev pub AreKnown : t.Values → Type 0
  AreKnown t.stop = Unit {0}
  AreKnown (t.more e es) = TargetIsKnown s (t.type_of e) × AreKnown es

  -- ---- expressions

  -- constants are numbers of their types, null is a pointer of a known type, and what is named is in scope
  abbrev mutual
    pub NodeStands : CoreType → t.ValueNode → Type 0
    NodeStands type (t.constant z) = holds p.model (kind_at type) z ≡ true
    NodeStands type t.null = TargetIsKnown s type
    NodeStands type (t.temporary n) = (s.temporaries n ≡ Some (kind_given type)) × TargetIsKnown s type
    NodeStands type (t.apply o es) = OpStands o × AllStand es
    NodeStands type (t.logic c a b) = ⊥
    NodeStands type (t.choose c a b) = ⊥
    NodeStands type (t.effect e es) = ⊥

    pub ValueStands : t.Value → Type 0
    ValueStands (t.typed node type line) = NodeStands type node

    pub AllStand : t.Values → Type 0
    AllStand t.stop = Unit {0}
    AllStand (t.more e es) = ValueStands e × AllStand es

  -- `ValueFits` of c_well_typed, where temporaries stand for values that were computed before
  module _ (c : Around) where
    abbrev mutual
      pub NodeFits : CoreType → t.ValueNode → Type 0
      NodeFits type (t.constant z) = IsInteger type
      NodeFits type t.null = IsTrue (is_pointer type)
      NodeFits type (t.temporary n) = Unit {0}
      NodeFits type (t.apply o es) = AllFit es × OpFits c o (types_of es) type
      NodeFits type (t.logic how a b) = ⊥
      NodeFits type (t.choose test a b) = ⊥
      NodeFits type (t.effect e es) = ⊥

      pub CoreFits : t.Value → Type 0
      CoreFits (t.typed node type line) = NodeFits type node

      pub AllFit : t.Values → Type 0
      AllFit t.stop = Unit {0}
      AllFit (t.more e es) = CoreFits e × AllFit es

-- ---- what is so of them

-- An operator that fits is typed, and what it gives leads to what is spoken of, as its operands do.
pub record OpIs (p : Facts) (xs : List Variable) (s : Scope) (type : CoreType) (o : Op) (es : t.Values) : Type 0 where
  pub typed : OpIsTyped p xs s type o es
  pub known : TargetIsKnown s type

abbrev pub OperatorsAreTyped : Type 0
OperatorsAreTyped =
    (p : Facts) (xs : List Variable) (s : Scope) (c : Around) → Meets c p xs s → (o : Op) (es : t.Values) (type : CoreType) → OpFits c o (types_of es) type
    → AreKnown p xs s es → OpStands p xs s o → OpIs p xs s type o es

pub record ValueIs (p : Facts) (xs : List Variable) (s : Scope) (v : t.Value) : Type 0 where
  pub typed : IsTyped p xs s v
  pub known : TargetIsKnown s (t.type_of v)

-- An expression of a core program whose nodes fit and stand is typed, as those of conditions, of returned values and of what is stored.
abbrev pub CoreValuesAreTyped : Type 0
CoreValuesAreTyped =
    (p : Facts) (xs : List Variable) (s : Scope) (c : Around) → Meets c p xs s → (v : t.Value) → CoreFits p xs s c v → ValueStands p xs s v → ValueIs p xs s v

-- So are operands one after the other, as the arguments of a call.
pub record ValuesAre (p : Facts) (xs : List Variable) (s : Scope) (es : t.Values) : Type 0 where
  pub typed : AreTyped p xs s es
  pub known : AreKnown p xs s es

abbrev pub OperandsAreTyped : Type 0
OperandsAreTyped =
    (p : Facts) (xs : List Variable) (s : Scope) (c : Around) → Meets c p xs s → (es : t.Values) → AllFit p xs s c es → AllStand p xs s es → ValuesAre p xs s es

-- A value as typed, without effects, is such an expression.
abbrev pub WellTypedAreTyped : Type 0
WellTypedAreTyped =
    (p : Facts) (xs : List Variable) (s : Scope) (c : Around) → Meets c p xs s → (v : t.Value) → ValueFits c v → ValueStands p xs s v → ValueIs p xs s v

-- The way to an object that is changed is as that to one that is read; a local that no pointer leads to is the whole object.
pub record WayIs (p : Facts) (xs : List Variable) (s : Scope) (type : CoreType) (path : Path) : Type 0 where
  pub typed : ReadIsTyped p xs s (plain_root xs path.root) type path
  pub whole : (x : ℕ) → plain_root xs path.root ≡ Some x → path.steps ≡ []
  pub known : TargetIsKnown s type

abbrev pub ChangedAreTyped : Type 0
ChangedAreTyped =
    (p : Facts) (xs : List Variable) (s : Scope) (c : Around) → Meets c p xs s → (es : t.Values) (path : Path) (type : CoreType) → IsChangeable c (types_of es) path type
    → AreKnown p xs s es → is_in_scope s path.root ≡ true → stays_inside path.root path.steps ≡ true → WayIs p xs s type path
