use Rattle.acsl_encode.proofs.Naming.{binders_differ}
use Rattle.acsl_encode.proofs.laws.binders_differ.Goals as goal

pub returns : goal.returns
returns c = binders_differ
