use Rattle.program_tests.proofs.laws.tested_programs_fit.Goals as goal
use Rattle.program_tests.proofs.Whole as proof

pub returns : goal.returns
returns c = proof.tested_programs_fit
