use Rattle.std.proofs.Common.{◌≡◌, ◌-◌, map}
use Rattle.c_syntax.specs.View.{view_term}
use Rattle.parse_terms.specs.Read.{pointer_at}
use Rattle.parse_preds.specs.Read.{pointers_from}
use Rattle.parse_preds.proofs.atoms.more_pointers.Given as goal
use Rattle.c_grammar.specs.ListReaders.{with_items, more_separated}

abbrev pub invariant-loop-turn : goal.invariant-loop-turn
invariant-loop-turn l =
    with_items (map view_term l.pointers) (more_separated (pointer_at l.types l.room) (l.turn-end - l.turn) l.rest)
    ≡ pointers_from l.types l.room (view_term l.fn.first) (view_term l.fn.second) l.tokens
