use Rattle.std.proofs.Common.{◌≡◌, map, drop}
use Rattle.std.specs.List.{list_all}
use Rattle.qed_terms.specs.Setting as spec
use Rattle.regular_settings.specs.View.{param, params}
use Rattle.regular_settings.proofs.params.are_params.Given as goal

-- what is left decides
abbrev pub invariant-loop-at : goal.invariant-loop-at
invariant-loop-at l = list_all spec.is_param (params l.names) ≡ list_all spec.is_param (map param (drop l.at l.names))
