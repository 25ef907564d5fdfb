use Rattle.node_instances.proofs.conversions.turned_up.Goals as goal

pub returns : goal.returns
returns c f =
    let turned = c.operation-turned.ensures f _ _ (c.slot.ensures f) (c.turn.ensures f) in
    c.outside_or.ensures f _ _ _ (c.turn_below.ensures f) (c.below.ensures f) (c.equal-same.ensures f _ _ (c.converted.ensures f) turned)
