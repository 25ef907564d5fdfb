use Rattle.std.proofs.Common.{◌≡◌, ◌-◌, map}
use Rattle.parse_clauses.specs.Views.{view_item}
use Rattle.acsl_parser.specs.Lists.{repeat}
use Rattle.acsl_parser.specs.Read.{starts_item, item_at}
use Rattle.acsl_parser.proofs.items.items_at.Given as goal
use Rattle.c_grammar.specs.ListReaders.{with_items}

-- those so far and those of what is left are all
abbrev pub invariant-loop-turn : goal.invariant-loop-turn
invariant-loop-turn l =
    let item = item_at l.types l.room l.end in
    with_items (map view_item l.items) (repeat starts_item item (l.turn-end - l.turn) l.rest) ≡ repeat starts_item item l.turn-end l.tokens
