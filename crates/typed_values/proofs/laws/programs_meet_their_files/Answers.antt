use Rattle.typed_values.proofs.Programs.{programs_meet_their_files}
use Rattle.typed_values.proofs.laws.programs_meet_their_files.Goals as goal

pub returns : goal.returns
returns c = programs_meet_their_files
