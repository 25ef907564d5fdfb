use Rattle.memory_values.specs.View.{facts_in, view_reading}
use Rattle.memory_values.proofs.Adding.{both_push}
use Rattle.memory_values.proofs.ways.push_way.Goals as goal

pub returns : goal.returns
returns c = both_push _ _ _ _ _ _ _ (c.in_ok-push_indices.ensures (facts_in c.args.reading) (view_reading c.args.reading)) c.push_write.ensures
