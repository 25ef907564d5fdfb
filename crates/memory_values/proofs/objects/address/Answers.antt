use Rattle.std.proofs.lemmas.List.{get_or_default}
use Rattle.memory_values.specs.View.{facts_in, view_reading, view_terms}
use Rattle.memory_values.proofs.Homes.{step_turn}
use Rattle.memory_values.proofs.objects.address.Goals as goal

pub loop-step-preserved : goal.loop-step-preserved
loop-step-preserved c =
    step_turn (facts_in c.args.reading) (view_reading c.args.reading) (view_terms c.args.terms.now) c.as_slice-step-items.result.now c.args.path.now.steps c.loop-step.step-index _
    c.loop-step.pointer c.in_ok-pointer-2.pointer _ c.as_slice-step-items.ensures c.loop-step-test.true (get_or_default c.as_slice-step-items.result.now c.loop-step.step-index _ _ c.loop-step-test.true)
    (c.in_ok-pointer-2.ensures (facts_in c.args.reading) (view_reading c.args.reading)) c.loop-step.invariant
