use Rattle.parse_terms.proofs.Laws.{chain_term_sound, chain_term_complete}
use Rattle.parse_terms.proofs.exact.chain_term_is_exact.Goals as goal

pub returns : goal.returns
returns c = λ types room. record { sound = chain_term_sound types room; complete = chain_term_complete types room }
