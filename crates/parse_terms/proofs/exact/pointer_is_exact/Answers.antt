use Rattle.parse_terms.proofs.Laws.{pointer_sound, pointer_complete}
use Rattle.parse_terms.proofs.exact.pointer_is_exact.Goals as goal

pub returns : goal.returns
returns c = λ types room. record { sound = pointer_sound types room; complete = pointer_complete types room }
