use Rattle.plain_runs.specs.Fitting.{sizes}
use Rattle.value_words.specs.View.{view_sizes}
use Rattle.walk_frames.specs.View.{facts_in, shape_in}
use Rattle.program_walk.proofs.Opening.{slots_end, slots_turn}
use Rattle.program_walk.proofs.scopes.slots_of.Goals as goal

pub loop-variable-preserved : goal.loop-variable-preserved
loop-variable-preserved c k =
    slots_turn (sizes (facts_in c.args.frame) (shape_in c.args.frame k)) (view_sizes c.sizes_in-sizes.result) c.args.variables.now c.loop-variable.variable-index _ c.in_ok-value.value c.in_ok-flag.flag c.loop-variable.made.items
    c.push.new.self.items c.push-in-loop-variable.new.self.items c.loop-variable-test.true c.sizes_in-sizes.ensures (c.loop-variable.invariant k) c.in_ok-value.ensures c.in_ok-flag.ensures c.in_ok-push.ensures.items
    c.in_ok-push-2.ensures.items

pub returns : goal.returns
returns c k =
    slots_end (sizes (facts_in c.args.frame) (shape_in c.args.frame k)) c.args.variables.now c.loop-variable.variable-index c.loop-variable.made.items c.loop-variable-test.false (c.loop-variable.invariant k)
