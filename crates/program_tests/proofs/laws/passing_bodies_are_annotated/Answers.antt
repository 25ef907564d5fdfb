use Rattle.program_tests.proofs.laws.passing_bodies_are_annotated.Goals as goal
use Rattle.program_tests.proofs.Bodies as proof

pub returns : goal.returns
returns c = proof.passing_bodies_are_annotated
