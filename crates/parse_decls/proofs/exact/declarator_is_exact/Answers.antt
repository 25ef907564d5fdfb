use Rattle.parse_decls.proofs.Laws.{declarator_sound, declarator_complete}
use Rattle.parse_decls.proofs.exact.declarator_is_exact.Goals as goal

pub returns : goal.returns
returns c = λ types room base. record { sound = declarator_sound types room base; complete = declarator_complete types room base }
