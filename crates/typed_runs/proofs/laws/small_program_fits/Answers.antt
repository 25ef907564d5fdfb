use Rattle.typed_runs.proofs.Examples.{small_program_fits}
use Rattle.typed_runs.proofs.laws.small_program_fits.Goals as goal

pub returns : goal.returns
returns c = small_program_fits
