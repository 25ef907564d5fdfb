use Rattle.c_taken.proofs.Free.{marks_stay_in_scope}
use Rattle.c_taken.proofs.laws.marks_stay_in_scope.Goals as goal

pub returns : goal.returns
returns c = marks_stay_in_scope
