use Rattle.program_cells.proofs.Knowing.{programs_know_their_cells}
use Rattle.program_cells.proofs.laws.programs_know_their_cells.Goals as goal

pub returns : goal.returns
returns c = programs_know_their_cells
