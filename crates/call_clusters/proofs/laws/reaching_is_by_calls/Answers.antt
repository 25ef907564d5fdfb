use Rattle.call_clusters.proofs.Paths.{reaching_is_by_calls}
use Rattle.call_clusters.proofs.laws.reaching_is_by_calls.Goals as goal

pub returns : goal.returns
returns c = reaching_is_by_calls
