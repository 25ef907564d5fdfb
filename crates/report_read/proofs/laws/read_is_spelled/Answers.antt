use Rattle.report_read.proofs.Whole.{read_spelled}
use Rattle.report_read.proofs.laws.read_is_spelled.Goals as goal

pub returns : goal.returns
returns c = read_spelled
