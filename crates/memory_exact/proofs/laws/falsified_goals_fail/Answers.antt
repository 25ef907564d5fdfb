use Rattle.memory_exact.proofs.laws.falsified_goals_fail.Goals as goal
use Rattle.memory_exact.proofs.Exact as proof

pub returns : goal.returns
returns g c = proof.falsified_goals_fail (record { loop_fits = g.O.OtherStatements.loop_fits; call_fits = g.O.OtherStatements.call_fits })
