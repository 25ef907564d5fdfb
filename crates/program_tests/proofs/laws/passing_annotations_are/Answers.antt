use Rattle.program_tests.proofs.laws.passing_annotations_are.Goals as goal
use Rattle.program_tests.proofs.Annotations as proof

pub returns : goal.returns
returns c = proof.passing_annotations_are
