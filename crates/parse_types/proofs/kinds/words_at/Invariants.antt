use Rattle.std.proofs.Common.{◌≡◌, length, ◌++◌}
use Rattle.parse_types.specs.Read.{words_at}
use Rattle.parse_types.proofs.kinds.words_at.Given as goal

abbrev pub invariant-loop-first : goal.invariant-loop-first
invariant-loop-first l = ((words_at l.tokens).0 ≡ l.words.items ++ (words_at l.rest).0) × ((words_at l.tokens).1 ≡ (words_at l.rest).1)

abbrev pub decreases-loop-first : goal.decreases-loop-first
decreases-loop-first l = length l.rest
