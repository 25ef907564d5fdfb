use Rattle.view_text.proofs.Taken.{source_whole}
use Rattle.view_text.proofs.laws.source_is_whole.Goals as goal

pub returns : goal.returns
returns c = source_whole
