use Rattle.parse_preds.proofs.Laws.{logic_type_sound, logic_type_complete}
use Rattle.parse_preds.proofs.exact.logic_type_is_exact.Goals as goal

pub returns : goal.returns
returns c = λ types. record { sound = logic_type_sound types; complete = logic_type_complete types }
