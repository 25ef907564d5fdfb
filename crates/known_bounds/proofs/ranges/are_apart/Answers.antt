use Rattle.known_bounds.proofs.Ends.{not_below, not_above}
use Rattle.known_bounds.proofs.ranges.are_apart.Goals as goal

pub returns-then-are_ordered : goal.returns-then-are_ordered
returns-then-are_ordered c so a b h k e = not_below a b (c.are_ordered.ensures so a b h k) e

pub returns-else-are_ordered : goal.returns-else-are_ordered
returns-else-are_ordered c so a b h k e = not_above a b (c.are_ordered-else-are_ordered.ensures so b a k h) e
