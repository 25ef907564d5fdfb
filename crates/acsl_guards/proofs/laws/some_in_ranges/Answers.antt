use Rattle.acsl_guards.proofs.Ranged as laws
use Rattle.acsl_guards.proofs.laws.some_in_ranges.Goals as goal

pub returns : goal.returns
returns c = laws.some_in_ranges
