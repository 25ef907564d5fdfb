use Rattle.acsl_guards.proofs.Ranged as laws
use Rattle.acsl_guards.proofs.laws.ranges_say_chains.Goals as goal

pub returns : goal.returns
returns c = laws.ranges_say_chains
