use Rattle.c_kinds.proofs.Results.{results_are_exact}
use Rattle.c_kinds.proofs.laws.results_are_exact.Goals as goal

pub returns : goal.returns
returns c = results_are_exact
