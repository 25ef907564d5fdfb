use Rattle.parse_preds.proofs.Laws.{typed_sound, typed_complete}
use Rattle.parse_preds.proofs.exact.typed_is_exact.Goals as goal

pub returns : goal.returns
returns c = λ types. record { sound = typed_sound types; complete = λ xs x s rest follows. typed_complete types xs x s rest }
