use Rattle.memory_exact.proofs.laws.valid_goals_suffice.Goals as goal
use Rattle.memory_exact.proofs.Exact as proof

pub returns : goal.returns
returns g c = proof.valid_goals_suffice (record { loop_fits = g.O.OtherStatements.loop_fits; call_fits = g.O.OtherStatements.call_fits })
