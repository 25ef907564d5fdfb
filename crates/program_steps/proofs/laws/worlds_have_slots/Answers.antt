use Rattle.program_steps.proofs.laws.worlds_have_slots.Goals as goal
use Rattle.program_steps.proofs.Arriving as proof

pub returns : goal.returns
returns c = proof.worlds_have_slots
