use Rattle.acsl_guards.proofs.Ruling as laws
use Rattle.acsl_guards.proofs.laws.guards_are_first.Goals as goal

pub returns : goal.returns
returns c = laws.guards_are_first
