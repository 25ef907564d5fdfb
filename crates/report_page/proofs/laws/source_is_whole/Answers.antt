use Rattle.report_page.proofs.Shown.{source_whole}
use Rattle.report_page.proofs.laws.source_is_whole.Goals as goal

pub returns : goal.returns
returns c = source_whole
