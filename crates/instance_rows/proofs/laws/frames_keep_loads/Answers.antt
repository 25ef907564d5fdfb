use Rattle.instance_rows.proofs.Loads.{frames_follow}
use Rattle.instance_rows.proofs.laws.frames_keep_loads.Goals as goal

pub returns : goal.returns
returns c = frames_follow
