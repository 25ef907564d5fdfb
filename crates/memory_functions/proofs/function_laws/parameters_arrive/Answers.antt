use Rattle.memory_functions.proofs.function_laws.parameters_arrive.Goals as goal
use Rattle.memory_functions.proofs.Arriving as proof

pub returns : goal.returns
returns g c = proof.parameters_arrive (record { loop_fits = g.O.OtherStatements.loop_fits; call_fits = g.O.OtherStatements.call_fits })
