use Rattle.parse_decls.proofs.Laws.{variables_after_sound, variables_after_complete}
use Rattle.parse_decls.proofs.exact.variables_after_are_exact.Goals as goal

pub returns : goal.returns
returns c = λ types room base. record { sound = variables_after_sound types room base; complete = λ xs vs s rest follows. variables_after_complete types room base xs vs s rest }
