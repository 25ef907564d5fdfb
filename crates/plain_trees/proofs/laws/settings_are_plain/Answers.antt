use Rattle.plain_trees.proofs.laws.settings_are_plain.Goals as goal
use Rattle.plain_trees.proofs.Settings_plain as proof

pub returns : goal.returns
returns c = proof.settings_are_plain
