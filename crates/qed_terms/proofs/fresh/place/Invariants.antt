use Rattle.std.proofs.Common.{◌≡◌, map, drop}
use Rattle.qed_terms.specs.Counts.{place_of, row_of}
use Rattle.qed_terms.proofs.Counting.{further}
use Rattle.qed_terms.proofs.fresh.place.Given as goal

-- the base stands at no place so far
abbrev pub invariant-loop-at : goal.invariant-loop-at
invariant-loop-at l = place_of (map row_of l.counts) l.base ≡ further l.at (place_of (drop l.at (map row_of l.counts)) l.base)
