use Rattle.std.proofs.Common.{◌≡◌, ◌++◌, map, drop}
use Rattle.acsl_encode.specs.Setting as spec
use Rattle.annotation_words.specs.View.{view_global}
use Rattle.regular_settings.specs.View.{params}
use Rattle.logic_calls.proofs.params.put_globals.Given as goal

-- what is put, and what is to come
abbrev pub invariant-loop-at : goal.invariant-loop-at
invariant-loop-at l =
    params l.out ++ spec.all_params spec.global_params (map view_global (drop l.at l.globals))
    ≡ params l.initial.out ++ spec.all_params spec.global_params (map view_global l.globals)
