use Rattle.known_bounds.proofs.Ends.{taken_from, taken_up}
use Rattle.known_bounds.proofs.ranges.difference.Goals as goal

pub returns : goal.returns
returns c a b h k =
    (taken_from c.args.left.low c.args.right.high c.end_taken.result c.end_taken.ensures a b h.0 k.1, taken_up c.args.left.high c.args.right.low c.end_taken-2.result c.end_taken-2.ensures a b h.1 k.0)
