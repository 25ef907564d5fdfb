use Rattle.std.proofs.Common.{◌≡◌, ◌+◌, length, drop}
use Rattle.qed_terms.specs.Names.{before_colon}
use Rattle.qed_terms.proofs.fresh.colon_place.Given as goal

-- no colon so far
abbrev pub invariant-loop-at : goal.invariant-loop-at
invariant-loop-at l = length (before_colon l.bytes) ≡ l.at + length (before_colon (drop l.at l.bytes))
