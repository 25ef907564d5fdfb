use Rattle.plain_runs.specs.Fitting.{sizes}
use Rattle.step_walks.proofs.Along.{along_start}
use Rattle.walk_frames.specs.View.{facts_in, shape_in}
use Rattle.program_walk.proofs.Opening.{opened_end, opened_turn}
use Rattle.program_walk.proofs.scopes.open_all.Goals as goal

pub loop-variable-init : goal.loop-variable-init
loop-variable-init c m k gs = along_start _

pub loop-variable-preserved : goal.loop-variable-preserved
loop-variable-preserved c m k gs =
    let s = shape_in c.args.frame k in
    opened_turn m s (sizes (facts_in c.args.frame) s) c.args.variables.now c.loop-variable.variable-index _ c.loop-variable-test.true (c.loop-variable.invariant m k gs) (c.in_ok-open_one.ensures m k gs)

pub returns : goal.returns
returns c m k gs =
    let s = shape_in c.args.frame k in
    opened_end m s (sizes (facts_in c.args.frame) s) c.args.variables.now c.loop-variable.variable-index c.loop-variable-test.false (c.loop-variable.invariant m k gs)
