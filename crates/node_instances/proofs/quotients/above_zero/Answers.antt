use Rattle.node_instances.proofs.quotients.above_zero.Goals as goal

pub returns : goal.returns
returns c f =
    let product = c.times_divisor-product.ensures f _ (c.quotient_at.ensures f) in
    let upper = c.operation-upper.ensures f _ _ (c.times_divisor.ensures f _ (c.quotient_at-2.ensures f)) (c.before_divisor.ensures f) in
    let bounds =
    c.and_of-bounds.ensures f _ (
      c.at_most.ensures f _ _ (c.number.ensures f) (c.quotient_at-3.ensures f),
      (
        c.at_most-2.ensures f _ _ (c.quotient_at-4.ensures f) (c.slot.ensures f),
        (c.at_most-3.ensures f _ _ product (c.slot-2.ensures f), (c.at_most-4.ensures f _ _ (c.slot-3.ensures f) upper, tt)),
      ),
    ) in
    c.or_of.ensures f _ (c.below_zero.ensures f, (bounds, tt))
