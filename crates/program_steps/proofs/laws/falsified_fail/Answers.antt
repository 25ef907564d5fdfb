use Rattle.program_steps.proofs.laws.falsified_fail.Goals as goal
use Rattle.program_steps.proofs.Entering as proof

pub returns : goal.returns
returns g c = proof.falsified_fail (record { loop_fits = g.O.OtherStatements.loop_fits; call_fits = g.O.OtherStatements.call_fits })
