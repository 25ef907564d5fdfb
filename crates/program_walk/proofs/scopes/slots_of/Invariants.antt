use Rattle.std.proofs.Common.{◌≡◌, ℕ, take}
use Rattle.wp_base.specs.declared.kinds.Kind.{Kind}
use Rattle.plain_runs.specs.Fitting.{sizes}
use Rattle.program_steps.specs.Words as words
use Rattle.walk_frames.specs.View.{facts_in, shape_in}
use Rattle.program_walk.proofs.scopes.slots_of.Given as goal

abbrev pub invariant-loop-variable : goal.invariant-loop-variable
invariant-loop-variable l = (k : ℕ → Kind) → l.made.items ≡ words.slots_of (sizes (facts_in l.frame) (shape_in l.frame k)) (take l.variable-index l.variables)
