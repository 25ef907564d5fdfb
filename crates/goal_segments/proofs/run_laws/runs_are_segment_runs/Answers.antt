use Rattle.goal_segments.proofs.Found.{runs_are_segment_runs}
use Rattle.goal_segments.proofs.run_laws.runs_are_segment_runs.Goals as goal

pub returns : goal.returns
returns c = runs_are_segment_runs
