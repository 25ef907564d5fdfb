use Rattle.parse_decls.proofs.Laws.{enumerators_sound, enumerators_complete}
use Rattle.parse_decls.proofs.exact.enumerators_are_exact.Goals as goal

pub returns : goal.returns
returns c = λ types room. record { sound = enumerators_sound types room; complete = λ xs vs s rest follows. enumerators_complete types room xs vs s rest }
