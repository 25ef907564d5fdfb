use Rattle.parse_decls.proofs.Laws.{fields_sound, fields_complete}
use Rattle.parse_decls.proofs.exact.fields_are_exact.Goals as goal

pub returns : goal.returns
returns c = λ types room. record { sound = fields_sound types room; complete = fields_complete types room }
