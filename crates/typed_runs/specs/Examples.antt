-- A small function with pointers whose statements keep to the kinds: what is asked can be met.
use Rattle.std.specs.Prelude.{ℕ, zero, suc, true, false, pos, List, [], ◌∷◌, Option, Some, None}
use Rattle.wp_base.specs.declared.kinds.CellKind.TheVariants as cell
use Rattle.wp_base.specs.declared.kinds.Kind.TheVariants as kind
use Rattle.c_kinds.specs.declared.models.Machdep.TheVariants as model
use Rattle.typed_prog.specs.declared.types.CoreType.{CoreType}
use Rattle.typed_prog.specs.declared.operators.Comparison.TheVariants as cmp
use Rattle.typed_prog.specs.declared.operators.Op.TheVariants as op
use Rattle.typed_prog.specs.declared.operators.Path.{Path}
use Rattle.typed_prog.specs.declared.operators.Root.TheVariants as root
use Rattle.typed_prog.specs.declared.operators.Variable.TheVariants as variable
use Rattle.typed_prog.specs.Types.{of_kind, pointer_to}
use Rattle.typed_prog.specs.Tree as tree
use Rattle.c_runs.specs.Program.{Variable, Loop, Function, Facts, Program}
use Rattle.c_runs.specs.Checks.{checks_of, all_checks}
use Rattle.c_runs.specs.Tree.{place, Step, store, start, call, branch, repeat, around, exit, give, scope, Steps, end, then_}
use Rattle.typed_runs.specs.Fitting.{Shape, place_checks, FitsProgram}

-- int f(int *p) {
--     int x = 1;
--     int *q = &x;
--     while (*q < *p) x = *p;
--     *p = f(q);
--     return *q;
-- }

abbrev pub int : CoreType
int = of_kind kind.Int

abbrev pointer : CoreType
pointer = pointer_to int false

abbrev facts : Facts
facts = record { model = model.X86_64; globals = []; structs = []; definitions = []; in_cluster = λ m n. true }

abbrev variables : List Variable
variables =
    record { layout = record { count = 1; cells = cell.Ptr ∷ []; writable = true }; is_plain = true; has_value = true }
    ∷ record { layout = record { count = 1; cells = cell.Of kind.Int ∷ []; writable = true }; is_plain = false; has_value = true }
    ∷ record { layout = record { count = 1; cells = cell.Ptr ∷ []; writable = true }; is_plain = true; has_value = true } ∷ []

abbrev pub shape_of_f : Shape
shape_of_f = record {
  variables = variables;
  temporaries = 0;
  temp_kind = λ n. cell.Of kind.Int;
  result = Some (cell.Of kind.Int);
  has_blocks = true;
  has_kind = λ k. true;
}

abbrev to_local : ℕ → Path
to_local n = record { root = root.Variable (variable.Local n); steps = []; line = 1 }

abbrev pub to_pointed : Path
to_pointed = record { root = root.Pointed 0; steps = []; line = 1 }

-- a local that no pointer leads to, and what it points to
abbrev pub held : ℕ → tree.Value
held n = tree.typed (tree.apply (op.Read (to_local n)) tree.stop) pointer 1

abbrev pointed : ℕ → tree.Value
pointed n = tree.typed (tree.apply (op.Read to_pointed) (tree.more (held n) tree.stop)) int 1

abbrev one : tree.Value
one = tree.typed (tree.constant (pos 1)) int 1

abbrev address_of_x : tree.Value
address_of_x = tree.typed (tree.apply (op.Address (to_local 1) false) tree.stop) pointer 1

abbrev test : tree.Value
test = tree.typed (tree.apply (op.Compare cmp.Less) (tree.more (pointed 2) (tree.more (pointed 0) tree.stop))) int 1

abbrev starts : ℕ → tree.Value → Step
starts n e = start (checks_of variables e) n e

abbrev stores : Path → tree.Values → Step
stores path es = store (place_checks facts shape_of_f path es) int 1 path es

abbrev pub turns : Loop
turns = record { invariants = []; assigns = None; line = 0; variant = None; declared = 3 }

abbrev pub turn : Steps
turn = then_ (branch (checks_of variables test) test (then_ (stores (to_local 1) (tree.more (pointed 0) tree.stop)) end) (then_ (exit 0) end)) end

abbrev pub body : Steps
body =
    then_ (scope (1 ∷ 2 ∷ []) (then_ (starts 1 one) (then_ (starts 2 address_of_x) (then_ (around (then_ (repeat turns turn) end))
    (then_ (call (all_checks variables (tree.more (held 2) tree.stop))
    (place (place_checks facts shape_of_f to_pointed (tree.more (held 0) tree.stop)) int 1 to_pointed (tree.more (held 0) tree.stop)) 0 1 (tree.more (held 2) tree.stop))
    (then_ (give (checks_of variables (pointed 2)) (Some (pointed 2))) end)))))) end

abbrev pub f : Function Steps
f = record {
  params = 1;
  variables = variables;
  result = Some (cell.Of kind.Int);
  contract = record { plain = record { assumes = []; requires = []; ensures = []; assigns = None }; decreases = None; behaviors = []; together = [] };
  body = body;
  end = 1;
}

abbrev pub functions : ℕ → Option (Function Steps)
functions zero = Some f
functions (suc n) = None

abbrev pub small : Program Steps
small = record { facts = facts; functions = functions }

abbrev pub SmallProgramFits : Type 0
SmallProgramFits = FitsProgram small
