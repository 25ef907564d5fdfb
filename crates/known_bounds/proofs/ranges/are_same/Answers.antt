use Rattle.known_bounds.proofs.Ends.{one_number}
use Rattle.known_bounds.proofs.ranges.are_same.Goals as goal

pub returns-then-are_ordered : goal.returns-then-are_ordered
returns-then-are_ordered c so a b h k = one_number a b (c.are_ordered.ensures c.if-are_ordered.true a b h k) (c.are_ordered-then-are_ordered.ensures so b a k h)
