use Rattle.std.proofs.Common.{◌≡◌, ◌++◌, drop, map}
use Rattle.c_syntax.specs.View.{view_behavior}
use Rattle.acsl_clauses.specs.Items.{view_item, behaviors_of}
use Rattle.acsl_clauses.proofs.items.put_behaviors.Given as goal

abbrev pub invariant-loop-i : goal.invariant-loop-i
invariant-loop-i l =
    map view_item l.items.items ++ behaviors_of (map view_behavior (drop l.i l.behaviors)) ≡ map view_item l.initial.items.items ++ behaviors_of (map view_behavior l.behaviors)
