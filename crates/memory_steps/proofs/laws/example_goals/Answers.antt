use Rattle.memory_steps.proofs.laws.example_goals.Goals as goal
use Rattle.memory_steps.proofs.Worked as worked

pub returns : goal.returns
returns c = worked.example_goals
