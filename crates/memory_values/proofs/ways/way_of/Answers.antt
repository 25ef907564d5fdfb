use Rattle.memory_values.specs.View.{facts_in, shape_in, slots_in, table_in}
use Rattle.memory_values.proofs.Finished.{way_made}
use Rattle.memory_values.proofs.ways.way_of.Goals as goal

pub returns : goal.returns
returns c = λ ss l ts level same.
    way_made (facts_in c.args.reading) (shape_in c.args.reading) (slots_in c.args.reading) (table_in c.args.reading) ss l level c.push_way.result _ _ c.args.ty.now c.args.path.now c.args.terms.now ts
    same c.push_way.ensures
