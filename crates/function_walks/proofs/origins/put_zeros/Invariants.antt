use Rattle.std.proofs.Common.{◌≡◌, ◌++◌, ◌-◌}
use Rattle.function_walks.specs.Entry.{view_origins}
use Rattle.program_steps.specs.Starting.{zero_origins}
use Rattle.function_walks.proofs.origins.put_zeros.Given as goal

abbrev pub invariant-loop-slot : goal.invariant-loop-slot
invariant-loop-slot l = view_origins l.made.items ++ zero_origins (l.count - l._slot) ≡ view_origins l.fn.made.items ++ zero_origins l.count
