use Rattle.std.proofs.Common.{◌≡◌, ◌++◌, ◌-◌, map, length}
use Rattle.memory_worlds.specs.View.{view_base}
use Rattle.memory_names.specs.Parts.{from_on, temporary_part}
use Rattle.memory_names.proofs.bases.push_temporaries.Given as goal

abbrev pub invariant-loop-at : goal.invariant-loop-at
invariant-loop-at l =
    map view_base l.bases.items ++ from_on (temporary_part l.kinds) l.at (length l.kinds - l.at)
    ≡ map view_base l.initial.bases.items ++ from_on (temporary_part l.kinds) 0 (length l.kinds)
