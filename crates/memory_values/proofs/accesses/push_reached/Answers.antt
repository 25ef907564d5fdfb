use Rattle.memory_values.specs.View.{facts_in, view_reading}
use Rattle.memory_values.proofs.Adding.{three_push}
use Rattle.memory_values.proofs.accesses.push_reached.Goals as goal

pub returns : goal.returns
returns c =
    three_push _ _ _ _ _ _ _ _ _ _ (c.in_ok-push_indices.ensures (facts_in c.args.reading) (view_reading c.args.reading)) c.in_ok-push_access.ensures c.push_facts.ensures
