use Rattle.std.proofs.Common.{◌≡◌, ◌++◌, ℕ, Bool, drop, length, map}
use Rattle.core_trees.specs.View.{view_variables}
use Rattle.program_trees.specs.View.{view_facts}
use Rattle.walk_live.specs.Bits.{bits}
use Rattle.walk_words.specs.View.{view_change}
use Rattle.loop_walks.specs.Parts.{changes_from}
use Rattle.loop_walks.proofs.changes.add_changes.Given as goal

abbrev pub invariant-loop-at : goal.invariant-loop-at
invariant-loop-at l =
    (f : ℕ → Bool) → l.changing ≡ bits (length (view_variables l.variables)) f
    → map view_change l.made.items ++ changes_from (view_facts l.facts) l.has_flags f l.at (view_variables (drop l.at l.variables))
    ≡ map view_change l.initial.made.items ++ changes_from (view_facts l.facts) l.has_flags f 0 (view_variables l.variables)
