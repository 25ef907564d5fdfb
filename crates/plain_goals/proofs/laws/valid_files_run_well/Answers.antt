use Rattle.plain_goals.proofs.laws.valid_files_run_well.Goals as goal
use Rattle.plain_goals.proofs.Whole as proof

pub returns : goal.returns
returns c = proof.valid_files_run_well
