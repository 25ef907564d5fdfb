use Rattle.parse_types.proofs.Laws.{type_name_sound, type_name_complete}
use Rattle.parse_types.proofs.exact.type_name_is_exact.Goals as goal

pub returns : goal.returns
returns c = λ types. record { sound = type_name_sound types; complete = type_name_complete types }
