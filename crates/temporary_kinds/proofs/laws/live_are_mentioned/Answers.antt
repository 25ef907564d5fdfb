use Rattle.temporary_kinds.proofs.Live.{live_are_mentioned}
use Rattle.temporary_kinds.proofs.laws.live_are_mentioned.Goals as goal

pub returns : goal.returns
returns c = live_are_mentioned
