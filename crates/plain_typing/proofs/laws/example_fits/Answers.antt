use Rattle.plain_typing.proofs.Examples.{example_fits}
use Rattle.plain_typing.proofs.laws.example_fits.Goals as goal

pub returns : goal.returns
returns c = example_fits
