use Rattle.std.proofs.Common.{◌≡◌, ◌-◌, map}
use Rattle.c_syntax.specs.View.{view_ctype, view_var}
use Rattle.parse_exprs.specs.Read.{cond_at, expr_at}
use Rattle.parse_decls.specs.Views.{view_param}
use Rattle.parse_decls.specs.Read.{param_on_of}
use Rattle.parse_decls.proofs.params.more_params.Given as goal
use Rattle.c_grammar.specs.ListReaders.{with_items, more_separated}

-- those so far and those of what is left are all
abbrev pub invariant-loop-turn : goal.invariant-loop-turn
invariant-loop-turn l =
    let item = param_on_of l.types (cond_at l.types) l.room in
    with_items (map view_param l.params) (more_separated item (l.turn-end - l.turn) l.rest) ≡ with_items (map view_param l.fn.first) (more_separated item l.turn-end l.tokens)
