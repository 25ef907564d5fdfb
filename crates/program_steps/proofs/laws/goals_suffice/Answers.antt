use Rattle.program_steps.proofs.laws.goals_suffice.Goals as goal
use Rattle.program_steps.proofs.Sufficing as proof

pub returns : goal.returns
returns g c = proof.goals_suffice (record { loop_fits = g.O.OtherStatements.loop_fits; call_fits = g.O.OtherStatements.call_fits })
