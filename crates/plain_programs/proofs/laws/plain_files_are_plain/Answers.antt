use Rattle.plain_programs.proofs.Whole.{plain_files_are_plain}
use Rattle.plain_programs.proofs.laws.plain_files_are_plain.Goals as goal

pub returns : goal.returns
returns c = plain_files_are_plain
