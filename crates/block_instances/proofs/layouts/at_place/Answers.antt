use Rattle.block_instances.proofs.layouts.at_place.Goals as goal

pub returns : goal.returns
returns c f =
    c.and_of.ensures f _ (
      c.at_most.ensures f _ _ (c.number.ensures f) (c.slot-2.ensures f),
      (
        c.less.ensures f _ _ (c.slot-3.ensures f) (c.number_of_cells.ensures f),
        (c.equal.ensures f _ _ (c.operation-rest.ensures f _ _ (c.slot.ensures f) (c.number_in_element.ensures f)) (c.number_of.ensures f), tt),
      ),
    )
