use Rattle.c_kinds.proofs.Results.{results_are_of_kind}
use Rattle.c_kinds.proofs.laws.results_are_of_kind.Goals as goal

pub returns : goal.returns
returns c = results_are_of_kind
