use Rattle.std.proofs.Common.{◌≡◌, map, drop}
use Rattle.std.specs.List.{list_any}
use Rattle.qed_terms.specs.Setting as spec
use Rattle.regular_settings.specs.View.{param, params}
use Rattle.regular_settings.proofs.params.is_among.Given as goal

-- what is left decides
abbrev pub invariant-loop-at : goal.invariant-loop-at
invariant-loop-at l =
    list_any (spec.same_param (record { name = l.name; sort = l.sort })) (params (drop l.from l.names))
    ≡ list_any (spec.same_param (record { name = l.name; sort = l.sort })) (map param (drop l.at l.names))
