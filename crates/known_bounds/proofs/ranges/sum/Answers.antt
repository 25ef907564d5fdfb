use Rattle.known_bounds.proofs.Ends.{added_from, added_up}
use Rattle.known_bounds.proofs.ranges.sum.Goals as goal

pub returns : goal.returns
returns c a b h k =
    (added_from c.args.left.low c.args.right.low c.end_added.result c.end_added.ensures a b h.0 k.0, added_up c.args.left.high c.args.right.high c.end_added-2.result c.end_added-2.ensures a b h.1 k.1)
