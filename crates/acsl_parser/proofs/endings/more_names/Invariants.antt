use Rattle.std.proofs.Common.{◌≡◌, ◌-◌}
use Rattle.acsl_parser.specs.Read.{plain_name_at}
use Rattle.acsl_parser.proofs.endings.more_names.Given as goal
use Rattle.c_grammar.specs.ListReaders.{with_items, more_separated}

-- those so far and those of what is left are all
abbrev pub invariant-loop-turn : goal.invariant-loop-turn
invariant-loop-turn l =
    let item = plain_name_at in
    with_items l.items (more_separated item (l.turn-end - l.turn) l.rest) ≡ with_items l.fn.first (more_separated item l.turn-end l.tokens)
