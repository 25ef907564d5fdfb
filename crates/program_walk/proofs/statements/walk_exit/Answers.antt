use Rattle.step_walks.proofs.Walking.{exit_walks}
use Rattle.program_walk.proofs.statements.walk_exit.Goals as goal

pub returns : goal.returns
returns c bases gs = exit_walks c.args.block c.in_ok-leave.ensures
