use Rattle.parse_types.proofs.Laws.{type_sound, type_complete}
use Rattle.parse_types.proofs.exact.type_is_exact.Goals as goal

pub returns : goal.returns
returns c = λ types. record { sound = type_sound types; complete = type_complete types }
