use Rattle.walk_steps.proofs.laws.example_goals.Goals as goal
use Rattle.walk_steps.proofs.Worked as worked

-- src/laws.rt:117:1
pub returns : goal.returns
returns c = worked.example_goals
