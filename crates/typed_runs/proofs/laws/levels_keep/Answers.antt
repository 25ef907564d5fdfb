use Rattle.typed_runs.proofs.Levels.{levels_keep}
use Rattle.typed_runs.proofs.laws.levels_keep.Goals as goal

pub returns : goal.returns
returns c = levels_keep
