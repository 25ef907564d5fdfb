use Rattle.memory_exact.proofs.laws.goals_are_exact_by_check.Goals as goal
use Rattle.memory_exact.proofs.Exact as proof

pub returns : goal.returns
returns g c = proof.goals_are_exact_by_check (record { loop_fits = g.O.OtherStatements.loop_fits; call_fits = g.O.OtherStatements.call_fits })
