use Rattle.parse_terms.proofs.Laws.{some_terms_sound, some_terms_listed}
use Rattle.parse_terms.proofs.exact.some_terms_are_exact.Goals as goal

pub returns : goal.returns
returns c = λ types room. record { sound = some_terms_sound types room; complete = some_terms_listed types room }
