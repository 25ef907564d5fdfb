use Rattle.std.proofs.Common.{◌≡◌, ◌-◌, map}
use Rattle.c_syntax.specs.View.{view_term}
use Rattle.parse_terms.specs.Read.{chain_term_at}
use Rattle.parse_preds.specs.Read.{with_tail, tail_from, tail_at}
use Rattle.parse_preds.proofs.chains.tail_at.Given as goal

abbrev pub invariant-loop-turn : goal.invariant-loop-turn
invariant-loop-turn l =
    with_tail (map view_term l.terms) l.ops (tail_at (chain_term_at l.types l.room) (l.turn-end - l.turn) l.rest) ≡ tail_from l.types l.room (view_term l.fn.first) l.tokens
