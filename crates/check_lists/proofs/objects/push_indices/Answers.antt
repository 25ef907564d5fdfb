use Rattle.std.proofs.lemmas.List.{get_or_default}
use Rattle.check_lists.proofs.Reaching.{step_turn}
use Rattle.check_lists.proofs.objects.push_indices.Goals as goal

pub loop-step-preserved : goal.loop-step-preserved
loop-step-preserved c =
    step_turn c.args.out.now c.loop-step.out c.push_step.new.out c.args.way.now c.args.steps.now c.loop-step.step-index c.loop-step.number c.in_ok-number.number _
    c.loop-step-test.true (get_or_default c.args.steps.now c.loop-step.step-index _ _ c.loop-step-test.true) c.in_ok-push_step.ensures c.in_ok-number.ensures c.loop-step.invariant
