-- Calls whose result goes to its place at once.
use Rattle.std.specs.Prelude.{ℕ, Option, Some, None}
use Rattle.typed_prog.specs.declared.operators.Effect.TheVariants as effect
use Rattle.typed_prog.specs.Tree as t
use Rattle.c_runs.specs.Core.{start, join, one}
use Rattle.c_runs.specs.Plans.{Made}
use Rattle.c_runs.specs.Normal.{Did}

abbrev pub call_node : t.ValueNode → Option (ℕ × t.Values)
call_node (t.effect (effect.Call f) es) = Some (f, es)
call_node _ = None

-- the function and the arguments, where an expression is a call
abbrev pub call_in : t.Value → Option (ℕ × t.Values)
call_in e = call_node (t.node_of e)

-- a variable is declared with a value that was made
abbrev pub starting : (variable : ℕ) → Made → Did
starting x m = record { did = join m.before (one (start x m.value)); next_temp = m.next_temp }
