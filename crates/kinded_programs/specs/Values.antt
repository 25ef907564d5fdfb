-- What is asked of the values of a file beside the types of their nodes, and of what is declared where they stand.
use Rattle.std.specs.Prelude.{◌≡◌, ◌≤◌, ℕ, true, [], length, Option, Some, slice_get}
use Rattle.c_kinds.specs.Models.{holds}
use Rattle.typed_prog.specs.declared.types.CoreType.{CoreType}
use Rattle.typed_prog.specs.declared.operators.Effect.{Effect}
use Rattle.typed_prog.specs.declared.operators.Effect.TheVariants as effect
use Rattle.typed_prog.specs.declared.operators.Op.{Op}
use Rattle.typed_prog.specs.declared.operators.Op.TheVariants as op
use Rattle.typed_prog.specs.declared.operators.Path.{Path}
use Rattle.typed_prog.specs.Tree as t
use Rattle.c_scopes.specs.declared.symbols.Signature.{Signature}
use Rattle.c_exprs.specs.Typing.{Around}
use Rattle.c_well_typed.specs.Scalars.{IsScalarOrVoid}
use Rattle.c_well_typed.specs.WellTyped.{ValueFits}
use Rattle.c_programs.specs.Files.{result_of}
use Rattle.c_runs.specs.Program.{Stmts, Variable, Function, Facts}
use Rattle.c_runs.specs.Values.{kind_at}
use Rattle.value_terms.specs.Typed.{kind_given}
use Rattle.typed_values.specs.Kinds.{TargetIsKnown}
use Rattle.typed_values.specs.Declared.{Meets}
use Rattle.typed_values.specs.Values.{is_in_scope, stays_inside, is_in_block}
use Rattle.typed_runs.specs.Fitting.{Shape, InScope, kind_of}
use Rattle.typed_normal.specs.Spelled.{spelled_scope, IsKinded}
use Rattle.kinded_programs.specs.Nodes.{EachNode}

-- ---- values that stand

module _ (p : Facts) (s : Shape) (f : InScope) where
  -- the way begins in scope (C11 6.2.1p4), and stays in the variable that it begins at
  abbrev pub WayStands : Path → Type 0
  WayStands path = (is_in_scope (spelled_scope p s f) path.root ≡ true) × (stays_inside path.root path.steps ≡ true)

  abbrev pub EffectStands : Effect → Type 0
  EffectStands (effect.Assign path) = WayStands path
  EffectStands (effect.Update path by form) = WayStands path
  EffectStands (effect.Call n) = Unit {0}

  -- the address of a whole variable is that of one in a block; what a variable that no pointer leads to is made of has none
  abbrev pub OpIsFine : Op → Type 0
  OpIsFine (op.Read path) = WayStands path
  OpIsFine (op.Address path accessed) = WayStands path × (path.steps ≡ [] → is_in_block p s.variables path.root ≡ true)
  OpIsFine (op.Decay path accessed) = WayStands path
  OpIsFine op.Negate = Unit {0}
  OpIsFine op.Complement = Unit {0}
  OpIsFine op.Not = Unit {0}
  OpIsFine (op.Arithmetic o) = Unit {0}
  OpIsFine (op.Compare how) = Unit {0}
  OpIsFine (op.ComparePointers how) = Unit {0}
  OpIsFine (op.Offset minus index_first size accessed) = Unit {0}
  OpIsFine (op.Difference size) = Unit {0}
  OpIsFine op.Convert = Unit {0}
  OpIsFine op.Requalify = Unit {0}
  OpIsFine op.Cast = Unit {0}

  -- Constants are numbers of their types, null pointers have known types, what is named is in scope, and addresses are those of variables in blocks.
  abbrev pub NodeStands : CoreType → t.ValueNode → Type 0
  NodeStands type (t.constant z) = holds p.model (kind_at type) z ≡ true
  NodeStands type t.null = TargetIsKnown (spelled_scope p s f) type
  NodeStands type (t.temporary n) = Unit {0}
  NodeStands type (t.apply o es) = OpIsFine o
  NodeStands type (t.logic c a b) = Unit {0}
  NodeStands type (t.choose c a b) = Unit {0}
  NodeStands type (t.effect e es) = EffectStands e

  abbrev pub Stands : t.Value → Type 0
  Stands e = EachNode NodeStands e

-- ---- what is declared

module _ (p : Facts) (s : Shape) (functions : ℕ → Option (Function Stmts)) where
  -- A function with a body that is declared with these types (C11 6.9.1): each parameter is a variable of its kind.
  pub record Defines (n : ℕ) (g : Signature) : Type 0 where
    pub function : Function Stmts
    pub found : functions n ≡ Some function
    pub count : length g.params ≡ function.params
    pub enough : function.params ≤ length function.variables
    pub kinds : (i : ℕ) (type : CoreType) (v : Variable) → slice_get g.params i ≡ Some type → slice_get function.variables i ≡ Some v → kind_given type ≡ kind_of v
    pub result : function.result ≡ result_of g.result
    pub returns : IsScalarOrVoid g.result
    pub target : (f : InScope) → TargetIsKnown (spelled_scope p s f) g.result

  -- what is declared where an expression stands is in the program, whatever is in scope there
  pub record AreThere (c : Around) : Type 0 where
    pub meets : (f : InScope) → Meets c p s.variables (spelled_scope p s f)
    pub called : (n : ℕ) (g : Signature) → slice_get c.scope.file.functions n ≡ Some g → Defines n g

-- ---- what is so of them

-- Values that are well typed and stand have the kinds that are asked of a spelled program with blocks and pointers.
abbrev pub WellTypedAreKinded : Type 0
WellTypedAreKinded =
    (p : Facts) (s : Shape) (functions : ℕ → Option (Function Stmts)) (f : InScope) (c : Around) → AreThere p s functions c → (v : t.Value) → ValueFits c v → Stands p s f v
    → IsKinded p s functions f v
