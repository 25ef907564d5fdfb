use Rattle.report_shown.proofs.Placed.{lines_whole}
use Rattle.report_shown.proofs.laws.lines_are_the_text.Goals as goal

pub returns : goal.returns
returns c = lines_whole
