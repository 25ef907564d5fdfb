-- What is asked of the values of plain files beside the types of their nodes.
use Rattle.std.specs.Prelude.{◌≡◌, ◌≤◌, ℕ, Bool, true, ◌&&◌, List, length, Option, Some, slice_get}
use Rattle.std.specs.List.{list_all}
use Rattle.typed_prog.specs.declared.types.CoreType.{CoreType}
use Rattle.typed_prog.specs.declared.operators.Effect.{Effect}
use Rattle.typed_prog.specs.declared.operators.Effect.TheVariants as effect
use Rattle.typed_prog.specs.declared.operators.Root.{Root}
use Rattle.typed_prog.specs.declared.operators.Root.TheVariants as root
use Rattle.typed_prog.specs.declared.operators.Variable.TheVariants as variable
use Rattle.typed_prog.specs.Types.{of_kind}
use Rattle.typed_prog.specs.Tree as t
use Rattle.c_scopes.specs.declared.symbols.Object.{Object}
use Rattle.c_scopes.specs.declared.symbols.Signature.{Signature}
use Rattle.c_exprs.specs.Typing.{Around}
use Rattle.c_well_typed.specs.WellTyped.{ValueFits}
use Rattle.c_programs.specs.Files.{result_of}
use Rattle.c_runs.specs.Program.{Stmts, Variable, Function, Facts}
use Rattle.plain_states.specs.Scopes.{is_integer, kind_of}
use Rattle.plain_normal.specs.Plain.{IsPlain}
use Rattle.plain_test.specs.Plain.{is_plain_value}

-- ---- variables in scope

abbrev pub root_in : (in_scope : ℕ → Bool) → Root → Bool
root_in f (root.Variable (variable.Local x)) = f x
root_in f (root.Variable (variable.Global x)) = true
root_in f (root.Pointed n) = true

-- a variable that gets a value is in scope
abbrev pub effect_in : (in_scope : ℕ → Bool) → Effect → Bool
effect_in f (effect.Assign path) = root_in f path.root
effect_in f (effect.Update path by form) = root_in f path.root
effect_in f (effect.Call n) = true

module _ (f : ℕ → Bool) where
  abbrev mutual
    pub node_stands : t.ValueNode → Bool
    node_stands (t.constant z) = true
    node_stands t.null = true
    node_stands (t.temporary n) = true
    node_stands (t.apply o es) = all_stand es
    node_stands (t.logic c a b) = stands a && stands b
    node_stands (t.choose c a b) = stands c && (stands a && stands b)
    node_stands (t.effect e es) = effect_in f e && all_stand es

    pub stands : t.Value → Bool
    stands (t.typed node type line) = node_stands node

    pub all_stand : t.Values → Bool
    all_stand t.stop = true
    all_stand (t.more e es) = stands e && all_stand es

-- ---- what is declared

-- a variable that is an integer of this type
pub record Holds (xs : List Variable) (n : ℕ) (type : CoreType) : Type 0 where
  pub variable : Variable
  pub found : slice_get xs n ≡ Some variable
  pub kind : type ≡ of_kind (kind_of variable)

-- a function with a body that is declared with these types
pub record Defines (functions : ℕ → Option (Function Stmts)) (n : ℕ) (g : Signature) : Type 0 where
  pub function : Function Stmts
  pub found : functions n ≡ Some function
  pub count : length g.params ≡ function.params
  pub enough : function.params ≤ length function.variables
  pub kinds : (i : ℕ) (type : CoreType) (v : Variable) → slice_get g.params i ≡ Some type → slice_get function.variables i ≡ Some v → type ≡ of_kind (kind_of v)
  pub result : function.result ≡ result_of g.result

-- what is declared where an expression stands is in the program
pub record Meets (c : Around) (p : Facts) (xs : List Variable) (functions : ℕ → Option (Function Stmts)) : Type 0 where
  pub globals : (n : ℕ) (o : Object) → slice_get c.scope.file.globals n ≡ Some o → Holds p.globals n o.ty
  pub locals : (n : ℕ) (o : Object) → slice_get c.scope.local.objects n ≡ Some o → Holds xs n o.ty
  pub called : (n : ℕ) (g : Signature) → slice_get c.scope.file.functions n ≡ Some g → Defines functions n g

-- Values without pointers that are well typed are those of a program over plain integers.
abbrev pub WellTypedArePlain : Type 0
WellTypedArePlain =
    (p : Facts) (xs : List Variable) (functions : ℕ → Option (Function Stmts)) (f : ℕ → Bool) (c : Around) → list_all is_integer p.globals ≡ true → list_all is_integer xs ≡ true
    → Meets c p xs functions → (v : t.Value) → ValueFits c v → is_plain_value p.model v ≡ true
    → stands f v ≡ true → IsPlain p xs functions f v
