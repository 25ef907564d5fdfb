use Rattle.memory_values.proofs.Adding.{one_before}
use Rattle.memory_values.proofs.ranges.push_ends.Goals as goal

pub returns : goal.returns
returns c = one_before _ _ _ _ _ _ _ (c.in_ok-push_known.ensures _ c.from_low.ensures) (c.push_known-2.ensures _ c.up_to_high.ensures)
