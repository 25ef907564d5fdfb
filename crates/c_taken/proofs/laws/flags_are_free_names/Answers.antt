use Rattle.c_taken.proofs.Free.{flags_are_free_names}
use Rattle.c_taken.proofs.laws.flags_are_free_names.Goals as goal

pub returns : goal.returns
returns c = flags_are_free_names
