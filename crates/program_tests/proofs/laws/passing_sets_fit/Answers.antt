use Rattle.program_tests.proofs.laws.passing_sets_fit.Goals as goal
use Rattle.program_tests.proofs.Sets as proof

pub returns : goal.returns
returns c = proof.passing_sets_fit
