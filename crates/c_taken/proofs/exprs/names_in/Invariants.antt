use Rattle.std.proofs.Common.{◌≡◌, ◌++◌}
use Rattle.c_taken.specs.Addressed.{addressed, last_first}
use Rattle.c_taken.specs.Pieces.{pointed, exprs_in}
use Rattle.c_taken.proofs.Gathering.{expr_weight}
use Rattle.c_taken.proofs.exprs.names_in.Given as goal

-- the names so far, and those of what is still to be looked at, are all
abbrev pub invariant-loop-expr : goal.invariant-loop-expr
invariant-loop-expr l = pointed l.names.items ++ last_first addressed (exprs_in l.left.items) ≡ last_first addressed (exprs_in l.initial.left.items)

abbrev pub decreases-loop-expr : goal.decreases-loop-expr
decreases-loop-expr l = expr_weight l.left.items
