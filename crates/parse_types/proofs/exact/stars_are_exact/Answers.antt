use Rattle.parse_types.proofs.Laws.{stars_sound, stars_complete}
use Rattle.parse_types.proofs.exact.stars_are_exact.Goals as goal

pub returns : goal.returns
returns c = λ consts t. record { sound = stars_sound consts t; complete = λ xs t'. stars_complete consts xs t t' }
