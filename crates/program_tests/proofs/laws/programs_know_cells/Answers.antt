use Rattle.program_tests.proofs.laws.programs_know_cells.Goals as goal
use Rattle.program_tests.proofs.Whole as proof

pub returns : goal.returns
returns c = proof.programs_know_cells
