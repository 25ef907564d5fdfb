use Rattle.logic_sources.proofs.Verified.{verified_is_met}
use Rattle.logic_sources.proofs.laws.verified_is_met.Goals as goal

pub returns : goal.returns
returns c = verified_is_met
