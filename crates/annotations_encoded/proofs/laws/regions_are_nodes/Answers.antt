use Rattle.annotations_encoded.proofs.Annotations.{regions_are_nodes}
use Rattle.annotations_encoded.proofs.laws.regions_are_nodes.Goals as goal

pub returns : goal.returns
returns c = regions_are_nodes
