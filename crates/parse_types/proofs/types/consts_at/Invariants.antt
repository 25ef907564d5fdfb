use Rattle.std.proofs.Common.{◌≡◌, length, ◌||◌}
use Rattle.parse_types.specs.Read.{consts_at}
use Rattle.parse_types.proofs.types.consts_at.Given as goal

abbrev pub invariant-loop-first : goal.invariant-loop-first
invariant-loop-first l = ((consts_at l.tokens).0 ≡ (l.found || (consts_at l.rest).0)) × ((consts_at l.tokens).1 ≡ (consts_at l.rest).1)

abbrev pub decreases-loop-first : goal.decreases-loop-first
decreases-loop-first l = length l.rest
