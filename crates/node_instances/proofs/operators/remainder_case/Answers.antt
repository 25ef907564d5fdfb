use Rattle.node_instances.proofs.operators.remainder_case.Goals as goal

pub returns : goal.returns
returns c f =
    let whole = c.operation-whole.ensures f _ _ (c.slot-3.ensures f) (c.quotient.ensures f) in
    c.or_of.ensures f _ (
      c.equal.ensures f _ _ (c.slot-5.ensures f) (c.number.ensures f),
      (
        c.equal-2.ensures f _ _ (c.operation-rest.ensures f _ _ (c.slot.ensures f) (c.slot-2.ensures f))
            (c.operation-difference.ensures f _ _ (c.slot-4.ensures f) whole),
        tt,
      ),
    )
