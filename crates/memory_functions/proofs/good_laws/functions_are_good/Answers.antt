use Rattle.memory_functions.proofs.good_laws.functions_are_good.Goals as goal
use Rattle.memory_functions.proofs.Good as proof

pub returns : goal.returns
returns g c = proof.functions_are_good (record { loop_fits = g.O.OtherStatements.loop_fits; call_fits = g.O.OtherStatements.call_fits })
