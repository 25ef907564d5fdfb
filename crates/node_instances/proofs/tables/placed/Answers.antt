use Rattle.node_instances.proofs.tables.placed.Goals as goal

pub returns : goal.returns
returns c f = c.or_of.ensures f _ (c.not_of.ensures f _ (c.of_cell-read.ensures f), (c.within.ensures f, tt))
