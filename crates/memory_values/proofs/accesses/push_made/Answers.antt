use Rattle.memory_values.proofs.Adding.{one_before}
use Rattle.memory_values.proofs.accesses.push_made.Goals as goal

pub returns : goal.returns
returns c =
    one_before _ _ _ _ _ _ _ (c.in_ok-push_known.ensures _ (c.at_most.ensures _ _ c.number.ensures c.load_block-block.ensures))
    (c.push_known-2.ensures _ (c.less.ensures _ _ c.load_block-block-2.ensures c.count.ensures))
