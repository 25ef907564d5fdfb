use Rattle.memory_exact.proofs.laws.stops_have_goals.Goals as goal
use Rattle.memory_exact.proofs.Exact as proof

pub returns : goal.returns
returns g c = proof.stops_have_goals (record { loop_fits = g.O.OtherStatements.loop_fits; call_fits = g.O.OtherStatements.call_fits })
