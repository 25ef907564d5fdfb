use Rattle.checks_added.proofs.Mapping.{program_done}
use Rattle.checks_added.proofs.programs.add_checks.Goals as goal

pub returns : goal.returns
returns c = program_done c.args.program.now c.as_slice.result.now c.in_ok-functions.functions c.as_slice.ensures c.in_ok-functions.ensures
