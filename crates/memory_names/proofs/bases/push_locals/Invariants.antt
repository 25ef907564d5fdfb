use Rattle.std.proofs.Common.{◌≡◌, ◌++◌, ◌-◌, map, length}
use Rattle.core_trees.specs.View.{view_variables}
use Rattle.memory_worlds.specs.View.{view_base}
use Rattle.memory_names.specs.Parts.{from_on, local_part}
use Rattle.memory_names.proofs.bases.push_locals.Given as goal

abbrev pub invariant-loop-at : goal.invariant-loop-at
invariant-loop-at l =
    map view_base l.bases.items ++ from_on (local_part l.file l.own l.params (view_variables l.variables)) l.at (length l.variables - l.at)
    ≡ map view_base l.initial.bases.items ++ from_on (local_part l.file l.own l.params (view_variables l.variables)) 0 (length l.variables)
