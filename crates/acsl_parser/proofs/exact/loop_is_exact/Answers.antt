use Rattle.acsl_parser.proofs.Laws as law
use Rattle.acsl_parser.proofs.Closed as closed
use Rattle.acsl_parser.proofs.exact.loop_is_exact.Goals as goal

pub returns : goal.returns
returns c = λ types room end. record { sound = law.loop_sound types room end; complete = closed.loop_only types room end }
