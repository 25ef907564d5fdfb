use Rattle.report_read.proofs.Whole.{spelled_read}
use Rattle.report_read.proofs.laws.spelled_is_read.Goals as goal

pub returns : goal.returns
returns c = spelled_read
