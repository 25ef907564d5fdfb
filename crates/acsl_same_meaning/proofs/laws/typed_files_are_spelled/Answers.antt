use Rattle.acsl_same_meaning.proofs.Programs.{typed_files_are_spelled}
use Rattle.acsl_same_meaning.proofs.laws.typed_files_are_spelled.Goals as goal

pub returns : goal.returns
returns c = typed_files_are_spelled
