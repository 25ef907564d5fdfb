use Rattle.parse_preds.proofs.Laws.{pred_sound, pred_complete}
use Rattle.parse_preds.proofs.exact.pred_is_exact.Goals as goal

pub returns : goal.returns
returns c = λ types room. record { sound = pred_sound types room; complete = λ xs a s. pred_complete types room s.0 xs a s.1 }
