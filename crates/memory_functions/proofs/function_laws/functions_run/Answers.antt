use Rattle.memory_functions.proofs.function_laws.functions_run.Goals as goal
use Rattle.memory_functions.proofs.Wholes as proof

pub returns : goal.returns
returns g c = proof.functions_run (record { loop_fits = g.O.OtherStatements.loop_fits; call_fits = g.O.OtherStatements.call_fits })
