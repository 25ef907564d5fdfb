use Rattle.c_taken.proofs.Free.{outer_names_are_free}
use Rattle.c_taken.proofs.laws.outer_names_are_free.Goals as goal

pub returns : goal.returns
returns c = outer_names_are_free
