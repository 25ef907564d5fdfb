use Rattle.memory_values.specs.View.{facts_in, shape_in, slots_in, table_in}
use Rattle.memory_values.proofs.Finished.{address_made}
use Rattle.memory_values.proofs.ways.address_of.Goals as goal

pub returns : goal.returns
returns c = λ ss l ts level same.
    address_made (facts_in c.args.reading) (shape_in c.args.reading) (slots_in c.args.reading) (table_in c.args.reading) ss l level c.args.path.now c.args.terms.now ts _ same c.in_ok-made.ensures
