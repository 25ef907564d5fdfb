use Rattle.parse_terms.proofs.Laws.{term_sound, term_complete}
use Rattle.parse_terms.proofs.exact.term_is_exact.Goals as goal

pub returns : goal.returns
returns c = λ types room. record { sound = term_sound types room; complete = term_complete types room }
