use Rattle.branch_links.proofs.Soundness.{refuted_is_false}
use Rattle.branch_links.proofs.laws.links_refute.Goals as goal

pub returns : goal.returns
returns c = refuted_is_false
