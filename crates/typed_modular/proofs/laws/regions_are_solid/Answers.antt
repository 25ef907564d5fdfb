use Rattle.typed_modular.proofs.Regions.{regions_are_solid}
use Rattle.typed_modular.proofs.laws.regions_are_solid.Goals as goal

pub returns : goal.returns
returns c = regions_are_solid
