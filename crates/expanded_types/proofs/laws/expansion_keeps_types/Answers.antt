use Rattle.expanded_types.proofs.Keeping.{expansion_keeps_types}
use Rattle.expanded_types.proofs.laws.expansion_keeps_types.Goals as goal

pub returns : goal.returns
returns c = expansion_keeps_types
