use Rattle.parse_terms.proofs.Laws.{entry_sound, entry_complete}
use Rattle.parse_terms.proofs.exact.entry_is_exact.Goals as goal

pub returns : goal.returns
returns c = λ types room. record { sound = entry_sound types room; complete = entry_complete types room }
