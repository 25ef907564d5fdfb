use Rattle.source_goals.proofs.laws.walks_are_of_sources.Goals as goal
use Rattle.source_goals.proofs.Sources as proof

pub returns : goal.returns
returns c = proof.walks_are_of_sources
