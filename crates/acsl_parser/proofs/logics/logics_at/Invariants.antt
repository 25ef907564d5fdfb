use Rattle.std.proofs.Common.{◌≡◌, ◌-◌, map}
use Rattle.c_syntax.specs.View.{view_logic}
use Rattle.acsl_parser.specs.Lists.{repeat}
use Rattle.acsl_parser.specs.Read.{starts_logic, logic_at}
use Rattle.acsl_parser.proofs.logics.logics_at.Given as goal
use Rattle.c_grammar.specs.ListReaders.{with_items}

-- those so far and those of what is left are all
abbrev pub invariant-loop-turn : goal.invariant-loop-turn
invariant-loop-turn l =
    let item = logic_at l.types in
    with_items (map view_logic l.items) (repeat starts_logic item (l.turn-end - l.turn) l.rest) ≡ repeat starts_logic item l.turn-end l.tokens
