use Rattle.std.proofs.lemmas.List.{get_or_default}
use Rattle.program_trees.specs.View.{view_facts}
use Rattle.value_words.specs.OverSlots.{reading_of}
use Rattle.value_words.specs.View.{view_terms}
use Rattle.value_words.proofs.Homes.{step_turn}
use Rattle.value_words.proofs.objects.address.Goals as goal

pub loop-step-preserved : goal.loop-step-preserved
loop-step-preserved c = λ xs ts.
    step_turn (view_facts c.args.facts.now) (reading_of (view_facts c.args.facts.now) xs ts) (view_terms c.args.terms.now) c.as_slice-step-items.result.now c.args.path.now.steps c.loop-step.step-index _
    c.loop-step.pointer c.in_ok-pointer-2.pointer _ c.as_slice-step-items.ensures c.loop-step-test.true (get_or_default c.as_slice-step-items.result.now c.loop-step.step-index _ _ c.loop-step-test.true)
    (c.in_ok-pointer-2.ensures (view_facts c.args.facts.now) (reading_of (view_facts c.args.facts.now) xs ts)) (c.loop-step.invariant xs ts)
