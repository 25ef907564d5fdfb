-- Labels of a switch, as the code looks for them.
use Rattle.std.specs.Prelude.{ℕ, suc, ◌-◌, ℤ, Bool, true, false, if◌then◌else◌, Option, Some, None}
use Rattle.typed_prog.specs.declared.operators.Comparison.TheVariants as cmp
use Rattle.typed_prog.specs.declared.operators.Op.TheVariants as op
use Rattle.typed_prog.specs.Tree as t
use Rattle.c_runs.specs.Program.{Stmt, Stmts, case_of}
use Rattle.c_runs.specs.Run.{is_case, is_default}
use Rattle.c_runs.specs.Core.{Cores, end, one, branch, exit}
use Rattle.c_runs.specs.Normal.{is_label, no_label, index_of, int_type, label_test}
use Rattle.normal_bodies.specs.declared.labels.Sought.{Sought}
use Rattle.normal_bodies.specs.declared.labels.Sought.TheVariants as sought
use Rattle.normal_bodies.specs.declared.labels.Groups.{Groups}

abbrev pub case_number : Stmt → Option ℤ
case_number (case_of z) = Some z
case_number s = None

abbrev pub meets : Sought → Stmt → Bool
meets (sought.Number z) = is_case z
meets sought.Otherwise = is_default
meets sought.End = no_label

-- ---- groups of adjacent labels

-- the open one too
abbrev pub all : Groups → ℕ
all x = if x.is_open then suc x.closed else x.closed

abbrev pub past : Groups → Stmt → Groups
past x s = if is_label s then record { is_open = true; closed = x.closed } else record { is_open = false; closed = all x }

-- how many groups are left, where one is closed or not
abbrev pub less : Bool → ℕ → ℕ
less true n = n - 1
less false n = n

-- ---- what leads to labels

-- whether a value that isn't a number as spelled is that of a label
abbrev pub compared : t.Value → ℤ → t.Value
compared (t.typed node type l) z = t.typed (t.apply (op.Compare cmp.Equal) (t.more (t.typed node type l) (t.more (t.typed (t.constant z) type l) t.stop))) int_type l

abbrev pub test_by : t.Value → (every : Stmts) → Option ℤ → Cores
test_by v every (Some z) = one (branch (label_test v z) (one (exit (index_of (is_case z) false every))) end)
test_by v every None = end

-- that of a statement, if it is a label with a number
abbrev pub test_of : t.Value → (every : Stmts) → Stmt → Cores
test_of v every s = test_by v every (case_number s)
