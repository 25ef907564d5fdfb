-- Which addresses stand in a typed expression: that of a whole variable is spelled by `&` directly before its name (C11 6.5.3.2p3).
use Rattle.std.specs.Prelude.{◌≡◌, ◌⊎◌, ℕ, List, [], ◌∷◌, Some, Ok}
use Rattle.c_syntax.specs.Expr as e
use Rattle.typed_prog.specs.declared.operators.Op.{Op}
use Rattle.typed_prog.specs.declared.operators.Op.TheVariants as op
use Rattle.typed_prog.specs.declared.operators.Path.{Path}
use Rattle.typed_prog.specs.declared.operators.Root.{Root}
use Rattle.typed_prog.specs.declared.operators.Root.TheVariants as root
use Rattle.typed_prog.specs.declared.operators.Step.{Step}
use Rattle.typed_prog.specs.Tree as t
use Rattle.c_scopes.specs.declared.symbols.Symbol.TheVariants as symbol
use Rattle.c_scopes.specs.Declarations.{find}
use Rattle.c_operands.specs.Operands.{Operand, object, value}
use Rattle.c_exprs.specs.Typing.{Around, typed}
use Rattle.c_taken.specs.Addressed.{Names, addressed}

-- this is so of the way in each address
module _ (N : Path → Type 0) where
  abbrev pub OpTakes : Op → Type 0
  OpTakes (op.Address path accessed) = N path
  OpTakes (op.Read path) = Unit {0}
  OpTakes (op.Decay path accessed) = Unit {0}
  OpTakes op.Negate = Unit {0}
  OpTakes op.Complement = Unit {0}
  OpTakes op.Not = Unit {0}
  OpTakes (op.Arithmetic o) = Unit {0}
  OpTakes (op.Compare how) = Unit {0}
  OpTakes (op.ComparePointers how) = Unit {0}
  OpTakes (op.Offset minus index_first size accessed) = Unit {0}
  OpTakes (op.Difference size) = Unit {0}
  OpTakes op.Convert = Unit {0}
  OpTakes op.Requalify = Unit {0}
  OpTakes op.Cast = Unit {0}

  abbrev mutual
    pub NodeTakes : t.ValueNode → Type 0
    NodeTakes (t.constant z) = Unit {0}
    NodeTakes t.null = Unit {0}
    NodeTakes (t.temporary n) = Unit {0}
    NodeTakes (t.apply o es) = OpTakes o × AllTake es
    NodeTakes (t.logic how a b) = ValueTakes a × ValueTakes b
    NodeTakes (t.choose test a b) = ValueTakes test × ValueTakes a × ValueTakes b
    NodeTakes (t.effect does es) = AllTake es

    pub ValueTakes : t.Value → Type 0
    ValueTakes (t.typed node type line) = NodeTakes node

    pub AllTake : t.Values → Type 0
    AllTake t.stop = Unit {0}
    AllTake (t.more v vs) = ValueTakes v × AllTake vs

-- ---- variables behind `&`

abbrev pub In : List ℕ → Names → Type 0
In x [] = ⊥
In x (y ∷ ys) = (x ≡ y) ⊎ In x ys

-- the way is a whole variable, and a name that this is so of stands for it
abbrev pub NamedBy : Around → (P : List ℕ → Type 0) → Root → List Step → Type 0
NamedBy c P (root.Variable x) [] = (y : List ℕ) × (find c.scope y ≡ Some (symbol.Object x)) × P y
NamedBy c P (root.Variable x) (s ∷ ss) = Unit {0}
NamedBy c P (root.Pointed n) ss = Unit {0}

abbrev pub Named : Around → (P : List ℕ → Type 0) → Path → Type 0
Named c P path = NamedBy c P path.root path.steps

-- each whole variable whose address is taken is named by one of these names
abbrev pub TakesOnly : Around → Names → t.Value → Type 0
TakesOnly c ns v = ValueTakes (λ path. Named c (λ y. In y ns) path) v

abbrev pub OperandTakesOnly : Around → Names → Operand → Type 0
OperandTakesOnly c ns (object p is_const) = AllTake (λ path. Named c (λ y. In y ns) path) (t.values_of p.operands)
OperandTakesOnly c ns (value v is_constant) = TakesOnly c ns v

-- In a typed expression those are the names that stand directly behind `&` in its text.
abbrev pub AddressesAreNamed : Type 0
AddressesAreNamed = (c : Around) (a : e.Expr) (x : Operand) → typed c a ≡ Ok x → OperandTakesOnly c (addressed a) x
