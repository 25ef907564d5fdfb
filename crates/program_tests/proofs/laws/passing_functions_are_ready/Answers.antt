use Rattle.program_tests.proofs.laws.passing_functions_are_ready.Goals as goal
use Rattle.program_tests.proofs.Ready as proof

pub returns : goal.returns
returns c = proof.passing_functions_are_ready
