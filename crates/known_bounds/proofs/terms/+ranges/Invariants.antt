-- The kids so far are summed up.
use Rattle.std.proofs.Common.{◌≡◌, map, take}
use Rattle.qed_terms.specs.Meaning.{World, Values}
use Rattle.qed_terms.specs.Operators.{total}
use Rattle.known_bounds.specs.Ranges.{IsIn}
use Rattle.known_bounds.specs.Bounds.{AreKept, term_value}
use Rattle.known_bounds.proofs.terms.+ranges.Given as goal

abbrev pub invariant-sum_range-loop-kid : goal.invariant-sum_range-loop-kid
invariant-sum_range-loop-kid l = (w : World) (env : Values) → AreKept env l.bounds → IsIn l.total (total (map (term_value w env) (take l.kid-index l.kids)))
