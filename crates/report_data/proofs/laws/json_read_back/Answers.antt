use Rattle.report_data.proofs.JsonGoals.{json_back}
use Rattle.report_data.proofs.laws.json_read_back.Goals as goal

pub returns : goal.returns
returns c = json_back
