use Rattle.parse_exprs.proofs.Laws.{expr_sound, expr_complete}
use Rattle.parse_exprs.proofs.exact.expr_is_exact.Goals as goal

pub returns : goal.returns
returns c = λ types room. record { sound = expr_sound types room; complete = expr_complete types room }
