use Rattle.std.proofs.Common.{◌≡◌, ◌++◌, ◌-◌, map, length}
use Rattle.core_trees.specs.View.{view_variables}
use Rattle.memory_worlds.specs.View.{view_base}
use Rattle.memory_names.specs.Parts.{from_on, global_part}
use Rattle.memory_names.proofs.bases.push_globals.Given as goal

abbrev pub invariant-loop-at : goal.invariant-loop-at
invariant-loop-at l =
    map view_base l.bases.items ++ from_on (global_part l.file (view_variables l.globals)) l.at (length l.globals - l.at)
    ≡ map view_base l.initial.bases.items ++ from_on (global_part l.file (view_variables l.globals)) 0 (length l.globals)
