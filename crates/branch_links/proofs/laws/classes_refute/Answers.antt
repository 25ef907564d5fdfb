use Rattle.branch_links.proofs.Classes.{refuted_by_classes}
use Rattle.branch_links.proofs.laws.classes_refute.Goals as goal

pub returns : goal.returns
returns c = refuted_by_classes
