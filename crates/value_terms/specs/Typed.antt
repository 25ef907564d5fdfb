-- What is asked of the types in an expression, so that values stay in their kinds: no more than that. What has no such rule isn't asked.
use Rattle.std.specs.Prelude.{◌≡◌, ℕ, zero, suc, ◌+◌, ◌*◌, ◌<◌, Bool, true, false, if◌then◌else◌, List, [], ◌∷◌, Option, Some, None, slice_get}
use Rattle.wp_base.specs.declared.kinds.Kind.{Kind}
use Rattle.wp_base.specs.declared.kinds.Kind.TheVariants as kind
use Rattle.wp_base.specs.declared.kinds.CellKind.{CellKind}
use Rattle.wp_base.specs.declared.kinds.CellKind.TheVariants as cell
use Rattle.wp_base.specs.Blocks.{cells_of}
use Rattle.c_kinds.specs.Models.{holds, difference_kind}
use Rattle.typed_prog.specs.declared.types.CoreType.{CoreType}
use Rattle.typed_prog.specs.declared.operators.Arithmetic.{Arithmetic}
use Rattle.typed_prog.specs.declared.operators.Arithmetic.TheVariants as ar
use Rattle.typed_prog.specs.declared.operators.Op.{Op}
use Rattle.typed_prog.specs.declared.operators.Op.TheVariants as op
use Rattle.typed_prog.specs.declared.operators.Path.{Path}
use Rattle.typed_prog.specs.declared.operators.Root.{Root}
use Rattle.typed_prog.specs.declared.operators.Root.TheVariants as root
use Rattle.typed_prog.specs.declared.operators.Step.{Step}
use Rattle.typed_prog.specs.declared.operators.Step.TheVariants as step
use Rattle.typed_prog.specs.declared.operators.Variable as code
use Rattle.typed_prog.specs.declared.operators.Variable.TheVariants as variable
use Rattle.typed_prog.specs.Types.{is_pointer}
use Rattle.typed_prog.specs.Tree as t
use Rattle.c_runs.specs.Program.{Facts, Variable}
use Rattle.c_runs.specs.Scopes.{scalar_of}
use Rattle.c_runs.specs.Objects.{plain_root, cell_of}
use Rattle.c_runs.specs.Values.{kind_at}
use Rattle.value_terms.specs.Readings.{plain_global}

-- ---- kinds

-- the kind of what an expression of this type gives
abbrev pub given_by : (is_pointer : Bool) → Kind → CellKind
given_by true k = cell.Ptr
given_by false k = cell.Of k

abbrev pub kind_given : CoreType → CellKind
kind_given type = given_by (is_pointer type) (kind_at type)

-- that of an operand
abbrev pub operand_kind : t.Values → ℕ → CellKind
operand_kind t.stop i = cell.Of kind.Int
operand_kind (t.more e es) zero = kind_given (t.type_of e)
operand_kind (t.more e es) (suc i) = operand_kind es i

-- What is known where an expression stands: which variables of the function are declared there, and the kind of each temporary that was set; whether blocks
-- are spoken of at all, which a program without pointers and arrays has no need of, and of which kinds the cells are that are read.
pub record Scope : Type 0 where
  pub has_blocks : Bool
  pub has_kind : CellKind → Bool
  pub is_declared : (variable : ℕ) → Bool
  pub temporaries : (number : ℕ) → Option CellKind

-- ---- integers

-- the operands of arithmetic are promoted, so that none is a `_Bool` (C11 6.3.1.1p2)
pub record IsInteger (type : CoreType) : Type 0 where
  pub no_pointer : is_pointer type ≡ false
  pub promoted : kind_at type ≡ kind.Bool → ⊥

-- the right operand of a shift has a kind of its own (C11 6.5.7p3)
abbrev pub second_is : Arithmetic → (k l : CellKind) → Type 0
second_is ar.Shl k l = Unit {0}
second_is ar.Shr k l = Unit {0}
second_is o k l = l ≡ k

-- ---- variables

-- a local that no pointer leads to
pub record LocalHas (xs : List Variable) (s : Scope) (x : ℕ) (k : CellKind) : Type 0 where
  pub variable : Variable
  pub found : slice_get xs x ≡ Some variable
  pub declared : s.is_declared x ≡ true
  pub kind : scalar_of variable.layout.cells ≡ k

-- a variable of the file that no pointer leads to
pub record GlobalHas (p : Facts) (x : ℕ) (k : CellKind) : Type 0 where
  pub variable : Variable
  pub found : slice_get p.globals x ≡ Some variable
  pub kind : scalar_of variable.layout.cells ≡ k

-- A way inside of an object, from one of its cells on, leads to a cell of the kind, whatever the indices are: they are below the lengths of their arrays.
abbrev pub ReachesFrom : (at : ℕ) → List CellKind → List Step → CellKind → Type 0
ReachesFrom n cells [] k = slice_get cells n ≡ Some k
ReachesFrom n cells (step.Field number offset ∷ ss) k = ReachesFrom (n + offset) cells ss k
ReachesFrom n cells (step.Element operand size count line ∷ ss) k = (i : ℕ) → i < count → ReachesFrom (n + size * i) cells ss k
ReachesFrom n cells (step.Moved operand size ∷ ss) k = ⊥

module _ (p : Facts) (xs : List Variable) (s : Scope) where
  -- this is the variable, and it is declared
  abbrev pub VariableIs : code.Variable → Variable → Type 0
  VariableIs (variable.Global x) v = slice_get p.globals x ≡ Some v
  VariableIs (variable.Local x) v = (slice_get xs x ≡ Some v) × (s.is_declared x ≡ true)

  -- a variable with a block of its own
  pub record HasBlock (x : code.Variable) : Type 0 where
    pub variable : Variable
    pub is : VariableIs x variable
    pub block : variable.is_plain ≡ false

  -- a variable has a cell of the kind there; what stands behind a pointer is checked
  abbrev pub ObjectIsTyped : Root → List Step → CellKind → Type 0
  ObjectIsTyped (root.Variable x) ss k = (o : HasBlock x) × ReachesFrom 0 (cells_of o.variable.layout) ss k
  ObjectIsTyped (root.Pointed n) ss k = Unit {0}

  abbrev pub CellIsTyped : Option ℕ → Root → List Step → CellKind → Type 0
  CellIsTyped (Some x) o ss k = GlobalHas p x k × (ss ≡ [])
  CellIsTyped None o ss k = (s.has_blocks ≡ true) × (s.has_kind k ≡ true) × ObjectIsTyped o ss k

  abbrev pub ReadIsTyped : Option ℕ → CoreType → Path → Type 0
  ReadIsTyped (Some x) type path = LocalHas xs s x (kind_given type)
  ReadIsTyped None type path =
      (cell_of type ≡ kind_given type) × CellIsTyped (plain_global p.globals path.root) path.root path.steps (kind_given type)

  -- where a pointer is made
  abbrev pub StartIsTyped : Root → t.Values → Type 0
  StartIsTyped (root.Variable x) es = HasBlock x
  StartIsTyped (root.Pointed n) es = operand_kind es n ≡ cell.Ptr

  -- ---- expressions

  abbrev pub OpIsTyped : CoreType → Op → t.Values → Type 0
  OpIsTyped type (op.Read path) es = ReadIsTyped (plain_root xs path.root) type path
  OpIsTyped type (op.Address path accessed) es = (is_pointer type ≡ true) × (s.has_blocks ≡ true) × StartIsTyped path.root es
  OpIsTyped type (op.Decay path accessed) es = (is_pointer type ≡ true) × (s.has_blocks ≡ true) × StartIsTyped path.root es
  OpIsTyped type op.Negate es = IsInteger type × (operand_kind es 0 ≡ kind_given type)
  OpIsTyped type op.Complement es = IsInteger type × (operand_kind es 0 ≡ kind_given type)
  OpIsTyped type op.Not es = is_pointer type ≡ false
  OpIsTyped type (op.Arithmetic o) es =
      IsInteger type × (operand_kind es 0 ≡ kind_given type) × second_is o (kind_given type) (operand_kind es 1)
  OpIsTyped type (op.Compare c) es = is_pointer type ≡ false
  OpIsTyped type (op.ComparePointers c) es = (is_pointer type ≡ false) × (s.has_blocks ≡ true)
  OpIsTyped type (op.Offset minus index_first size accessed) es =
      (is_pointer type ≡ true) × (s.has_blocks ≡ true) × (operand_kind es (if index_first then 1 else 0) ≡ cell.Ptr)
  OpIsTyped type (op.Difference size) es = (is_pointer type ≡ false) × (s.has_blocks ≡ true) × (kind_at type ≡ difference_kind p.model)
  OpIsTyped type op.Convert es = is_pointer type ≡ false
  OpIsTyped type op.Requalify es = operand_kind es 0 ≡ kind_given type
  OpIsTyped type op.Cast es = is_pointer type ≡ false

  abbrev mutual
    pub NodeIsTyped : CoreType → t.ValueNode → Type 0
    NodeIsTyped type (t.constant z) = (is_pointer type ≡ false) × (holds p.model (kind_at type) z ≡ true)
    NodeIsTyped type t.null = is_pointer type ≡ true
    NodeIsTyped type (t.temporary n) = s.temporaries n ≡ Some (kind_given type)
    NodeIsTyped type (t.apply o es) = AreTyped es × OpIsTyped type o es
    NodeIsTyped type (t.logic c a b) = ⊥
    NodeIsTyped type (t.choose c a b) = ⊥
    NodeIsTyped type (t.effect e es) = ⊥

    pub IsTyped : t.Value → Type 0
    IsTyped (t.typed node type line) = NodeIsTyped type node

    pub AreTyped : t.Values → Type 0
    AreTyped t.stop = Unit {0}
    AreTyped (t.more e es) = IsTyped e × AreTyped es
