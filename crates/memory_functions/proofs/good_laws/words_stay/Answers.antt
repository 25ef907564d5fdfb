use Rattle.memory_functions.proofs.good_laws.words_stay.Goals as goal
use Rattle.memory_functions.proofs.Staying as proof

pub returns : goal.returns
returns g c = proof.words_stay (record { loop_fits = g.O.OtherStatements.loop_fits; call_fits = g.O.OtherStatements.call_fits })
