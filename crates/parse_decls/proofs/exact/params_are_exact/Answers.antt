use Rattle.parse_decls.proofs.Laws.{params_sound, params_complete}
use Rattle.parse_decls.proofs.exact.params_are_exact.Goals as goal

pub returns : goal.returns
returns c = λ types room. record { sound = params_sound types room; complete = params_complete types room }
