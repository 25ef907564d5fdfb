use Rattle.check_lists.proofs.Reaching.{StepsLeft}
use Rattle.check_lists.proofs.objects.push_indices.Given as goal

abbrev pub invariant-loop-step : goal.invariant-loop-step
invariant-loop-step l = StepsLeft l.fn.out l.out l.way l.steps l.step-index l.number
