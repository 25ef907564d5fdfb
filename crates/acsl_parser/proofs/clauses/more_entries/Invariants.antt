use Rattle.std.proofs.Common.{◌≡◌, ◌-◌, map}
use Rattle.c_syntax.specs.View.{view_term}
use Rattle.parse_terms.specs.Read.{entry_at}
use Rattle.acsl_parser.proofs.clauses.more_entries.Given as goal
use Rattle.c_grammar.specs.ListReaders.{with_items, more_separated}

-- those so far and those of what is left are all
abbrev pub invariant-loop-turn : goal.invariant-loop-turn
invariant-loop-turn l =
    let item = entry_at l.types l.room in
    with_items (map view_term l.items) (more_separated item (l.turn-end - l.turn) l.rest) ≡ with_items (map view_term l.fn.first) (more_separated item l.turn-end l.tokens)
