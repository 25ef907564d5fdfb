use Rattle.std.proofs.Common.{◌≡◌, ◌++◌}
use Rattle.c_taken.specs.Addressed.{term_addressed, last_first}
use Rattle.c_taken.specs.Pieces.{pointed, terms_in}
use Rattle.c_taken.proofs.Gathering.{term_weight}
use Rattle.c_taken.proofs.terms.names_in.Given as goal

-- the names so far, and those of what is still to be looked at, are all
abbrev pub invariant-loop-term : goal.invariant-loop-term
invariant-loop-term l = pointed l.names.items ++ last_first term_addressed (terms_in l.left.items) ≡ last_first term_addressed (terms_in l.initial.left.items)

abbrev pub decreases-loop-term : goal.decreases-loop-term
decreases-loop-term l = term_weight l.left.items
