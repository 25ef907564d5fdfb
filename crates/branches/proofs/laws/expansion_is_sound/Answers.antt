use Rattle.branches.proofs.Models.{sound_by}
use Rattle.branches.proofs.laws.expansion_is_sound.Goals as goal

pub returns : goal.returns
returns g c setting passes = sound_by passes g.R.BranchRules.closed (g.R.BranchRules.change setting) (g.R.BranchRules.round setting)
