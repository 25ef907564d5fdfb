use Rattle.c_runs.specs.Program.{Facts}
use Rattle.value_terms.specs.Readings.{Reading}
use Rattle.memory_values.specs.View.{view_terms}
use Rattle.memory_values.proofs.Reaching.{StepsLeft}
use Rattle.memory_values.proofs.accesses.push_indices.Given as goal

abbrev pub invariant-loop-step : goal.invariant-loop-step
invariant-loop-step l = (p : Facts) (r : Reading) → StepsLeft p r (view_terms l.terms) l.fn.out.items l.out.items l.path.steps l.step-index
