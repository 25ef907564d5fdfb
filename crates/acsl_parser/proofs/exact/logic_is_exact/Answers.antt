use Rattle.acsl_parser.proofs.Laws as law
use Rattle.acsl_parser.proofs.exact.logic_is_exact.Goals as goal

pub returns : goal.returns
returns c = λ types. record { sound = law.logic_sound types; complete = λ xs x s rest follows. law.logic_complete types xs x s rest }
