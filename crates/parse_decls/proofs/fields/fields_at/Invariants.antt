use Rattle.std.proofs.Common.{◌≡◌, ◌-◌, map}
use Rattle.c_syntax.specs.View.{view_var}
use Rattle.parse_exprs.specs.Read.{cond_at}
use Rattle.parse_decls.specs.Read.{groups, group_of}
use Rattle.parse_decls.proofs.fields.fields_at.Given as goal
use Rattle.c_grammar.specs.ListReaders.{with_items}

-- those so far and those of what is left are all
abbrev pub invariant-loop-turn : goal.invariant-loop-turn
invariant-loop-turn l =
    let group = group_of l.types (cond_at l.types) l.room in
    with_items (map view_var l.fields) (groups group (l.turn-end - l.turn) l.rest) ≡ groups group l.turn-end l.tokens
