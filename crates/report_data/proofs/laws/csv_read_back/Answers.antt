use Rattle.report_data.proofs.Rows.{csv_back}
use Rattle.report_data.proofs.laws.csv_read_back.Goals as goal

pub returns : goal.returns
returns c = csv_back
