use Rattle.node_instances.proofs.operators.shift_bounds.Goals as goal

pub returns : goal.returns
returns c f =
    let low = c.times_divisor-low.ensures f _ (c.shifted.ensures f) in
    let high = c.operation-high.ensures f _ _ (c.times_divisor.ensures f _ (c.shifted-2.ensures f)) (c.before_divisor.ensures f) in
    c.between.ensures f _ _ _ low high (c.slot.ensures f) (c.slot-2.ensures f)
