use Rattle.typed_values.proofs.Files.{files_know_their_cells}
use Rattle.typed_values.proofs.laws.files_know_their_cells.Goals as goal

pub returns : goal.returns
returns c = files_know_their_cells
