use Rattle.node_instances.proofs.quotients.up_to_zero.Goals as goal

pub returns : goal.returns
returns c f =
    let product = c.times_divisor-product.ensures f _ (c.quotient_at.ensures f) in
    let lower = c.operation-lower.ensures f _ _ (c.times_divisor.ensures f _ (c.quotient_at-2.ensures f)) (c.from_divisor.ensures f) in
    let bounds =
    c.and_of-bounds.ensures f _ (
      c.at_most.ensures f _ _ (c.quotient_at-3.ensures f) (c.number.ensures f),
      (
        c.at_most-2.ensures f _ _ (c.slot.ensures f) (c.quotient_at-4.ensures f),
        (c.at_most-3.ensures f _ _ (c.slot-2.ensures f) product, (c.at_most-4.ensures f _ _ lower (c.slot-3.ensures f), tt)),
      ),
    ) in
    c.or_of.ensures f _ (c.at_most-5.ensures f _ _ (c.number-2.ensures f) (c.slot-4.ensures f), (bounds, tt))
