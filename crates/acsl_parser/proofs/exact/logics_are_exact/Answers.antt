use Rattle.std.proofs.Common.{◌++◌, refl}
use Rattle.acsl_parser.proofs.Laws as law
use Rattle.acsl_parser.proofs.Closed as closed
use Rattle.acsl_parser.proofs.exact.logics_are_exact.Goals as goal

pub returns : goal.returns
returns c = λ types. record { sound = law.logics_sound types; complete = λ xs ds s rest follows. closed.logics_only types (xs ++ rest) xs ds rest refl s follows }
