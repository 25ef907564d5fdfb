use Rattle.std.proofs.Common.{◌≡◌}
use Rattle.qed_terms.specs.Setting as spec
use Rattle.regular_settings.specs.View.{params}
use Rattle.regular_settings.proofs.Passing.{DifferFrom}
use Rattle.regular_settings.proofs.params.all_differ.Given as goal

-- what is left decides
abbrev pub invariant-loop-at : goal.invariant-loop-at
invariant-loop-at l = spec.all_differ spec.same_param (params l.names) ≡ DifferFrom l.names l.at
