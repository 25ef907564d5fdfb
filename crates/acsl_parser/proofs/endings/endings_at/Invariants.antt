use Rattle.std.proofs.Common.{◌≡◌, ◌-◌, map}
use Rattle.acsl_parser.specs.Views.{view_ending}
use Rattle.acsl_parser.specs.Lists.{repeat}
use Rattle.acsl_parser.specs.Read.{starts_ending, ending_at}
use Rattle.acsl_parser.proofs.endings.endings_at.Given as goal
use Rattle.c_grammar.specs.ListReaders.{with_items}

-- those so far and those of what is left are all
abbrev pub invariant-loop-turn : goal.invariant-loop-turn
invariant-loop-turn l =
    let item = ending_at l.end in
    with_items (map view_ending l.items) (repeat starts_ending item (l.turn-end - l.turn) l.rest) ≡ repeat starts_ending item l.turn-end l.tokens
