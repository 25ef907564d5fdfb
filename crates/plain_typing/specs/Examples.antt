-- A small file over plain integers, as it is typed: a variable of the file, a loop with a variable of its own, a call of itself, and a value that a temporary
-- takes. Its core program with the checks is one over plain integers.
--
--     int total;
--     int f(int n) {
--         int left = n;
--         while (left) { int part = f(left); left = part; }
--         total = left;
--         return n || left;
--     }
use Rattle.std.specs.Prelude.{ℕ, zero, suc, Bool, true, false, List, [], ◌∷◌, Option, Some, None}
use Rattle.wp_base.specs.declared.kinds.Kind.TheVariants as kind
use Rattle.wp_base.specs.declared.kinds.CellKind.TheVariants as cell
use Rattle.c_kinds.specs.declared.models.Machdep.TheVariants as machdep
use Rattle.typed_prog.specs.declared.types.CoreType.{CoreType}
use Rattle.typed_prog.specs.declared.operators.Connective.TheVariants as connective
use Rattle.typed_prog.specs.declared.operators.Effect.TheVariants as effect
use Rattle.typed_prog.specs.declared.operators.Op.TheVariants as op
use Rattle.typed_prog.specs.declared.operators.Path.{Path}
use Rattle.typed_prog.specs.declared.operators.Root.TheVariants as root
use Rattle.typed_prog.specs.declared.operators.Variable.TheVariants as variable
use Rattle.typed_prog.specs.Types.{of_kind}
use Rattle.typed_prog.specs.Tree as t
use Rattle.c_runs.specs.Program.{Behavior, Contract, Loop, Variable, Stmt, evaluate, block, initial, loop, return_of, Stmts, stop, more, Function, Facts, Program}
use Rattle.c_runs.specs.Normal.{normal}
use Rattle.c_runs.specs.Adding.{add_checks}
use Rattle.plain_runs.specs.Fitting.{FitsProgram}

abbrev pub int : CoreType
int = of_kind kind.Int

-- ---- variables: `total`; `n`, `left` and `part`

abbrev pub integer : (has_value : Bool) → Variable
integer b = record { layout = record { count = 1; cells = cell.Of kind.Int ∷ []; writable = true }; is_plain = true; has_value = b }

abbrev pub of_f : List Variable
of_f = integer true ∷ integer true ∷ integer true ∷ []

abbrev pub total : Path
total = record { root = root.Variable (variable.Global 0); steps = []; line = 5 }

abbrev pub local : (variable : ℕ) → Path
local x = record { root = root.Variable (variable.Local x); steps = []; line = 4 }

-- ---- expressions

abbrev pub value_of : (variable : ℕ) → t.Value
value_of x = t.typed (t.apply (op.Read (local x)) t.stop) int 4

abbrev pub only : t.Value → t.Values
only e = t.more e t.stop

abbrev pub assigned : Path → t.Value → t.Value
assigned path e = t.typed (t.effect (effect.Assign path) (only e)) int 4

abbrev pub f_of : t.Value → t.Value
f_of e = t.typed (t.effect (effect.Call 0) (only e)) int 4

abbrev pub either : t.Value → t.Value → t.Value
either a b = t.typed (t.logic connective.Or a b) int 6

-- ---- the file

abbrev pub nothing : Behavior
nothing = record { assumes = []; requires = []; ensures = []; assigns = None }

abbrev pub contract : Contract
contract = record { plain = nothing; decreases = None; behaviors = []; together = [] }

-- two variables are declared before it
abbrev pub unclaimed : Loop
unclaimed = record { invariants = []; assigns = None; line = 0; variant = None; declared = 2 }

abbrev pub turn : Stmt
turn = block (2 ∷ []) (more (initial 2 4 (f_of (value_of 1))) (more (evaluate (assigned (local 1) (value_of 2))) stop))

abbrev pub body : Stmts
body =
    more (block (1 ∷ []) (more (initial 1 3 (value_of 0))
    (more (loop unclaimed (Some (value_of 1)) turn None None)
    (more (evaluate (assigned total (value_of 1)))
    (more (return_of (Some (either (value_of 0) (value_of 1)))) stop))))) stop

abbrev pub f : Function Stmts
f = record { params = 1; variables = of_f; result = Some (cell.Of kind.Int); contract = contract; body = body; end = 7 }

abbrev pub functions : ℕ → Option (Function Stmts)
functions zero = Some f
functions (suc n) = None

abbrev pub facts : Facts
facts = record {
  model = machdep.X86_64;
  globals = integer true ∷ [];
  structs = [];
  definitions = [];
  in_cluster = λ caller callee. true;
}

abbrev pub file : Program Stmts
file = record { facts = facts; functions = functions }

abbrev pub ExampleFits : Type 0
ExampleFits = FitsProgram (add_checks (normal file))
