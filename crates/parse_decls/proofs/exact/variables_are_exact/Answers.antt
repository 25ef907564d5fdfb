use Rattle.parse_decls.proofs.Laws.{variables_sound, variables_complete}
use Rattle.parse_decls.proofs.exact.variables_are_exact.Goals as goal

pub returns : goal.returns
returns c = λ types room. record { sound = variables_sound types room; complete = λ xs vs s rest follows. variables_complete types room xs vs s rest }
