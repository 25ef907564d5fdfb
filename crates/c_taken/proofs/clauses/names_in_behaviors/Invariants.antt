use Rattle.std.proofs.Common.{◌≡◌, map, take}
use Rattle.c_syntax.specs.View.{view_behavior}
use Rattle.c_taken.specs.Addressed.{behaviors_addressed}
use Rattle.c_taken.specs.Pieces.{pointed}
use Rattle.c_taken.proofs.clauses.names_in_behaviors.Given as goal

abbrev pub invariant-loop-behavior : goal.invariant-loop-behavior
invariant-loop-behavior l = pointed l.names.items ≡ behaviors_addressed (map view_behavior (take l.behavior-index l.behaviors))
