use Rattle.std.proofs.Common.{◌≡◌, ◌-◌, map}
use Rattle.c_syntax.specs.View.{view_var}
use Rattle.parse_exprs.specs.Read.{cond_at}
use Rattle.parse_decls.specs.Read.{more_enumerators, enumerator_of}
use Rattle.parse_decls.proofs.enums.more_enumerators.Given as goal
use Rattle.c_grammar.specs.ListReaders.{with_items}

-- those so far and those of what is left are all
abbrev pub invariant-loop-turn : goal.invariant-loop-turn
invariant-loop-turn l =
    let item = enumerator_of l.types (cond_at l.types) l.room in
    with_items (map view_var l.items) (more_enumerators item (l.turn-end - l.turn) l.rest) ≡ with_items (map view_var l.fn.first) (more_enumerators item l.turn-end l.tokens)
