use Rattle.node_instances.proofs.memories.load_by_address.Goals as goal

pub returns : goal.returns
returns c f =
    c.or_of.ensures f _ (
      c.and_of-same.ensures f _ (
        c.equal.ensures f _ _ (c.slot.ensures f) (c.slot-2.ensures f),
        (
          c.equal-2.ensures f _ _ (c.slot-3.ensures f) (c.slot-4.ensures f),
          (c.equal-3.ensures f _ _ (c.load_of.ensures f) (c.slot-5.ensures f), tt),
        ),
      ),
      (
        c.and_of-other.ensures f _ (
          c.or_of-elsewhere.ensures f _ (
            c.not_of.ensures f _ (c.equal-4.ensures f _ _ (c.slot-6.ensures f) (c.slot-7.ensures f)),
            (c.not_of-2.ensures f _ (c.equal-5.ensures f _ _ (c.slot-8.ensures f) (c.slot-9.ensures f)), tt),
          ),
          (c.equal-6.ensures f _ _ (c.load_of-2.ensures f) (c.load-below.ensures f _ (c.slot-10.ensures f)), tt),
        ),
        tt,
      ),
    )
