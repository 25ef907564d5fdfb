use Rattle.std.proofs.Common.{◌≡◌, ◌-◌, map}
use Rattle.c_syntax.specs.View.{view_behavior}
use Rattle.acsl_parser.specs.Lists.{repeat}
use Rattle.acsl_parser.specs.Read.{starts_behavior, behavior_at}
use Rattle.acsl_parser.proofs.behaviors.behaviors_at.Given as goal
use Rattle.c_grammar.specs.ListReaders.{with_items}

-- those so far and those of what is left are all
abbrev pub invariant-loop-turn : goal.invariant-loop-turn
invariant-loop-turn l =
    let item = behavior_at l.types l.end in
    with_items (map view_behavior l.items) (repeat starts_behavior item (l.turn-end - l.turn) l.rest) ≡ repeat starts_behavior item l.turn-end l.tokens
