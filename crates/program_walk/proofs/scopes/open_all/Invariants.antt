use Rattle.std.proofs.Common.{ℕ, List, drop}
use Rattle.wp_base.specs.declared.kinds.Kind.{Kind}
use Rattle.qed_terms.specs.Meaning as sense
use Rattle.plain_runs.specs.Fitting.{sizes}
use Rattle.walk_steps.specs.Walk.{Goal}
use Rattle.program_steps.specs.Words as words
use Rattle.step_walks.specs.View.{view_state}
use Rattle.step_walks.proofs.Along.{Along}
use Rattle.walk_frames.specs.View.{facts_in, shape_in}
use Rattle.walk_frames.specs.Words.{Still}
use Rattle.program_walk.proofs.scopes.open_all.Given as goal

abbrev pub invariant-loop-variable : goal.invariant-loop-variable
invariant-loop-variable l =
    (m : sense.World) (k : ℕ → Kind) (gs : List Goal)
    → Along l.frame.bases.now (view_state l.initial.state) (view_state l.state) (Still gs) (Still gs)
    (words.all_opened m (shape_in l.frame k) (sizes (facts_in l.frame) (shape_in l.frame k)) (drop l.variable-index l.variables))
    (words.all_opened m (shape_in l.frame k) (sizes (facts_in l.frame) (shape_in l.frame k)) l.variables)
