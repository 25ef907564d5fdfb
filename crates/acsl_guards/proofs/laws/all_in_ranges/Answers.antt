use Rattle.acsl_guards.proofs.Ranged as laws
use Rattle.acsl_guards.proofs.laws.all_in_ranges.Goals as goal

pub returns : goal.returns
returns c = laws.all_in_ranges
