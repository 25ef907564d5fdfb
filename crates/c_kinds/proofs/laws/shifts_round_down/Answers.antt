use Rattle.c_kinds.proofs.Results.{shifts_round_down}
use Rattle.c_kinds.proofs.laws.shifts_round_down.Goals as goal

pub returns : goal.returns
returns c = shifts_round_down
