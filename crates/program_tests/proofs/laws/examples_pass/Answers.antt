use Rattle.program_tests.proofs.laws.examples_pass.Goals as goal
use Rattle.program_tests.proofs.Samples as proof

pub returns : goal.returns
returns c = proof.examples_pass
