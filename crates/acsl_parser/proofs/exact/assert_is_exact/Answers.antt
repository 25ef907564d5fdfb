use Rattle.acsl_parser.proofs.Laws as law
use Rattle.acsl_parser.proofs.exact.assert_is_exact.Goals as goal

pub returns : goal.returns
returns c = λ types room. record { sound = law.assert_sound types room; complete = λ xs a s rest follows. law.assert_always types room xs a s rest }
