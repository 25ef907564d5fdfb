use Rattle.memory_exact.proofs.laws.goals_are_exact.Goals as goal
use Rattle.memory_exact.proofs.Exact as proof

pub returns : goal.returns
returns g c = proof.goals_are_exact (record { loop_fits = g.O.OtherStatements.loop_fits; call_fits = g.O.OtherStatements.call_fits })
