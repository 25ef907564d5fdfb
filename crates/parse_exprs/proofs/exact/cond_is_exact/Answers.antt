use Rattle.parse_exprs.proofs.Laws.{cond_sound, cond_complete}
use Rattle.parse_exprs.proofs.exact.cond_is_exact.Goals as goal

pub returns : goal.returns
returns c = λ types room. record { sound = cond_sound types room; complete = cond_complete types room }
