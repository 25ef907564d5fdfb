use Rattle.plain_files.proofs.Nesting.{spelled_programs_nest}
use Rattle.plain_files.proofs.laws.spelled_programs_nest.Goals as goal

pub returns : goal.returns
returns c = spelled_programs_nest
