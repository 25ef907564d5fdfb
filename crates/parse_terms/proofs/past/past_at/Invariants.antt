use Rattle.std.proofs.Common.{◌≡◌, ◌≤◌, ◌+◌, false, length}
use Rattle.c_grammar.specs.Reading.{past}
use Rattle.parse_terms.proofs.past.past_at.Given as goal

abbrev pub invariant-loop-turn : goal.invariant-loop-turn
invariant-loop-turn l = record { same : past l.depth l.found l.rest ≡ past 0 false l.tokens; shallow : l.depth ≤ l.turn; left : l.turn + length l.rest ≡ length l.tokens }
