use Rattle.acsl_parser.proofs.Laws as law
use Rattle.acsl_parser.proofs.Closed as closed
use Rattle.acsl_parser.proofs.exact.contract_is_exact.Goals as goal

pub returns : goal.returns
returns c = λ types end. record { sound = law.contract_sound types end; complete = closed.contract_only types end }
