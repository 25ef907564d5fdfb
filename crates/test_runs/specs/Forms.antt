-- Short words to write programs with, and what is looked at of an outcome.
use Rattle.std.specs.Prelude.{ℕ, Bool, true, false, ℤ, pos, List, [], ◌∷◌, map, Some, None, slice_get}
use Rattle.wp_base.specs.declared.kinds.Kind.TheVariants as kind
use Rattle.wp_base.specs.declared.kinds.CellKind.TheVariants as cell
use Rattle.wp_base.specs.declared.kinds.Layout.{Layout}
use Rattle.c_kinds.specs.declared.models.Machdep.TheVariants as model
use Rattle.typed_prog.specs.declared.types.CoreType.{CoreType}
use Rattle.typed_prog.specs.declared.operators.Arithmetic.{Arithmetic}
use Rattle.typed_prog.specs.declared.operators.Comparison.{Comparison}
use Rattle.typed_prog.specs.declared.operators.Change.TheVariants as change
use Rattle.typed_prog.specs.declared.operators.Effect.TheVariants as effect
use Rattle.typed_prog.specs.declared.operators.Op.TheVariants as op
use Rattle.typed_prog.specs.declared.operators.Path.{Path}
use Rattle.typed_prog.specs.declared.operators.Root.TheVariants as root
use Rattle.typed_prog.specs.declared.operators.Step.TheVariants as step
use Rattle.typed_prog.specs.declared.operators.UpdateForm.{UpdateForm}
use Rattle.typed_prog.specs.declared.operators.Variable.TheVariants as variable
use Rattle.typed_prog.specs.Types.{of_kind, pointer_to}
use Rattle.typed_prog.specs.Tree.{Value, typed, constant, apply, effect as effect_, stop, values_of}
use Rattle.c_runs.specs.TruthStates.{Value as Held, number}
use Rattle.c_runs.specs.Program.{Contract, Behavior, Stmt, Stmts, stop as end, more as next, Variable, Function, Program}
use Rattle.c_runs.specs.States.{Memory, World}
use Rattle.c_runs.specs.Operators.{Undefined}
use Rattle.c_runs.specs.Claims.{Broken, Stop, spent, undefined, failed}
use Rattle.c_runs.specs.Calls.{Eval, gives, stops}
use Rattle.c_runs.specs.Run.{run_function}

-- ---- expressions of type `int`, each on a line

abbrev pub int : CoreType
int = of_kind kind.Int

abbrev pub num : ℤ → Value
num z = typed (constant z) int 1

abbrev pub local : (variable line : ℕ) → Path
local x l = record { root = root.Variable (variable.Local x); steps = []; line = l }

abbrev pub global : (variable line : ℕ) → Path
global x l = record { root = root.Variable (variable.Global x); steps = []; line = l }

-- an element of a local array of so many, whose index is the first operand
abbrev pub element : (variable count line : ℕ) → Path
element x n l = record { root = root.Variable (variable.Local x); steps = step.Element 0 1 n l ∷ []; line = l }

abbrev pub read : Path → List Value → Value
read p es = typed (apply (op.Read p) (values_of es)) int p.line

abbrev pub var : (variable line : ℕ) → Value
var x l = read (local x l) []

-- where the first operand points
abbrev pub pointed : (line : ℕ) → Value → Value
pointed l e = read (record { root = root.Pointed 0; steps = []; line = l }) (e ∷ [])

abbrev pub calc : Arithmetic → (line : ℕ) → Value → Value → Value
calc o l a b = typed (apply (op.Arithmetic o) (values_of (a ∷ b ∷ []))) int l

abbrev pub test : Comparison → (line : ℕ) → Value → Value → Value
test c l a b = typed (apply (op.Compare c) (values_of (a ∷ b ∷ []))) int l

abbrev pub assign : Path → (line : ℕ) → Value → List Value → Value
assign p l e es = typed (effect_ (effect.Assign p) (values_of (e ∷ es))) int l

abbrev pub update : Path → Arithmetic → UpdateForm → (line : ℕ) → Value → Value
update p o f l e = typed (effect_ (effect.Update p (change.Integer o kind.Int) f) (values_of (e ∷ []))) int l

abbrev pub call : (function line : ℕ) → List Value → Value
call f l es = typed (effect_ (effect.Call f) (values_of es)) int l

-- the address of a local array's first element, moved by so many elements; `accessed`, that it is followed at once
abbrev pub int_pointer : CoreType
int_pointer = pointer_to int false

abbrev pub decayed : (variable line : ℕ) → Value
decayed x l = typed (apply (op.Decay (local x l) true) stop) int_pointer l

abbrev pub moved : (accessed : Bool) → (line : ℕ) → Value → ℤ → Value
moved a l e z = typed (apply (op.Offset false false 1 a) (values_of (e ∷ num z ∷ []))) int_pointer l

-- ---- statements and functions

abbrev pub stmts : List Stmt → Stmts
stmts [] = end
stmts (s ∷ ss) = next s (stmts ss)

abbrev pub ints : (count : ℕ) → Layout
ints n = record { count = n; cells = cell.Of kind.Int ∷ []; writable = true }

abbrev pub pointer_cell : Layout
pointer_cell = record { count = 1; cells = cell.Ptr ∷ []; writable = true }

-- a plain `int`, with or without a value; an array of so many; a plain pointer without a value
abbrev pub with_value : Variable
with_value = record { layout = ints 1; is_plain = true; has_value = true }

abbrev pub without_value : Variable
without_value = record { layout = ints 1; is_plain = true; has_value = false }

abbrev pub array : (count : ℕ) → Variable
array n = record { layout = ints n; is_plain = false; has_value = false }

abbrev pub a_pointer : Variable
a_pointer = record { layout = pointer_cell; is_plain = true; has_value = false }

abbrev pub no_clauses : Behavior
no_clauses = record { assumes = []; requires = []; ensures = []; assigns = None }

abbrev pub no_contract : Contract
no_contract = record { plain = no_clauses; decreases = None; behaviors = []; together = [] }

-- of type `int`, with so many parameters, which are the first variables
abbrev pub function_of : (params : ℕ) → List Variable → List Stmt → Function Stmts
function_of n xs ss = record { params = n; variables = xs; result = Some (cell.Of kind.Int); contract = no_contract; body = stmts ss; end = 99 }

abbrev pub file_of : List Variable → List (Function Stmts) → Program Stmts
file_of gs fs = record {
  facts = record { model = model.X86_64; globals = gs; structs = []; definitions = []; in_cluster = λ f g. true };
  functions = λ f. slice_get fs f;
}

-- ---- outcomes

-- what is returned and how many turns are left, or why the run stopped
pub data Shown : Type 0 where
  returned : (v : ℤ) (turns : ℕ) → Shown
  pointer_returned : (turns : ℕ) → Shown
  ran_out : Shown
  went_wrong : (u : Undefined) (line : ℕ) → Shown
  broke : (b : Broken) (line : ℕ) → Shown

abbrev pub shown_value : Held → World → Shown
shown_value (number z) w = returned z w.turns
shown_value v w = pointer_returned w.turns

abbrev pub shown_stop : Stop → Shown
shown_stop (spent w) = ran_out
shown_stop (undefined u l) = went_wrong u l
shown_stop (failed b l) = broke b l

abbrev pub shown : Eval → Shown
shown (gives v w) = shown_value v w
shown (stops s) = shown_stop s

-- nothing was made yet, and each cell holds 0
abbrev pub bare : Memory
bare = record { blocks = []; cells = λ b o. number (pos 0) }

-- a call of the first function of a file, with so many turns
abbrev pub outcome : Program Stmts → (arguments : List ℤ) → (turns : ℕ) → (contents : List ℤ) → Shown
outcome p zs n contents = shown (run_function p 0 (map number zs) bare n (map number contents))
