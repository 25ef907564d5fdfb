use Rattle.typed_annotations.proofs.Regions.{regions_fit}
use Rattle.typed_annotations.proofs.laws.regions_fit.Goals as goal

pub returns : goal.returns
returns c = regions_fit
