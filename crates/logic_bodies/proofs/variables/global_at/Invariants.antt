use Rattle.std.proofs.Common.{◌≡◌, map, drop}
use Rattle.annotation_words.specs.View.{view_global}
use Rattle.logic_bodies.specs.Bodies as spec
use Rattle.logic_bodies.proofs.variables.global_at.Given as goal

-- what is left decides
abbrev pub invariant-loop-at : goal.invariant-loop-at
invariant-loop-at l = spec.found_in (map view_global l.globals) l.number ≡ spec.found_in (map view_global (drop l.at l.globals)) l.number
