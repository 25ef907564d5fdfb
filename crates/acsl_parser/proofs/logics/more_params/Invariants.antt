use Rattle.std.proofs.Common.{◌≡◌, ◌-◌, map}
use Rattle.c_syntax.specs.View.{view_var}
use Rattle.parse_preds.specs.Read.{typed_at}
use Rattle.acsl_parser.proofs.logics.more_params.Given as goal
use Rattle.c_grammar.specs.ListReaders.{with_items, more_separated}

-- those so far and those of what is left are all
abbrev pub invariant-loop-turn : goal.invariant-loop-turn
invariant-loop-turn l =
    let item = typed_at l.types in
    with_items (map view_var l.items) (more_separated item (l.turn-end - l.turn) l.rest) ≡ with_items (map view_var l.fn.first) (more_separated item l.turn-end l.tokens)
