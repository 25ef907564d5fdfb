use Rattle.std.proofs.Common.{◌≡◌, ◌++◌, map}
use Rattle.acsl_encode.specs.Setting as spec
use Rattle.annotation_words.specs.View.{view_named}
use Rattle.regular_settings.specs.View.{params}
use Rattle.std.proofs.Common.{drop}
use Rattle.logic_calls.proofs.params.put_params.Given as goal

-- what is put, and what is to come
abbrev pub invariant-loop-at : goal.invariant-loop-at
invariant-loop-at l =
    params l.out ++ spec.all_params spec.params_of (map view_named (drop l.at l.names))
    ≡ params l.initial.out ++ spec.all_params spec.params_of (map view_named l.names)
