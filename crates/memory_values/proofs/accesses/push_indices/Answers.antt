use Rattle.std.proofs.lemmas.List.{get_or_default}
use Rattle.memory_values.specs.View.{view_terms}
use Rattle.memory_values.proofs.Reaching.{first_step, step_turn, all_steps}
use Rattle.memory_values.proofs.accesses.push_indices.Goals as goal

pub loop-step-init : goal.loop-step-init
loop-step-init c = λ p r. first_step p r (view_terms c.args.terms.now) c.args.out.now.items c.args.path.now.steps

pub loop-step-preserved : goal.loop-step-preserved
loop-step-preserved c = λ p r.
    step_turn _ p r (view_terms c.args.terms.now) c.args.out.now.items c.loop-step.out.items c.push_step.new.out.items c.as_slice-step-items.result.now c.args.path.now.steps c.loop-step.step-index _
    c.as_slice-step-items.ensures c.loop-step-test.true (get_or_default c.as_slice-step-items.result.now c.loop-step.step-index _ _ c.loop-step-test.true) (c.in_ok-push_step.ensures p r 0)
    (c.loop-step.invariant p r)

pub returns : goal.returns
returns c = λ p r.
    all_steps _ p r (view_terms c.args.terms.now) c.args.out.now.items c.loop-step.out.items c.as_slice-step-items.result.now c.args.path.now.steps c.loop-step.step-index c.as_slice-step-items.ensures
    c.loop-step-test.false (c.loop-step.invariant p r)
