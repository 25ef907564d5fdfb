use Rattle.std.proofs.Common.{◌≡◌, ◌-◌, map}
use Rattle.c_syntax.specs.View.{view_ctype, view_var}
use Rattle.parse_preds.specs.Binders.{binders_from, more_binders}
use Rattle.parse_preds.proofs.binders.more_binders.Given as goal
use Rattle.c_grammar.specs.ListReaders.{with_items}

abbrev pub invariant-loop-turn : goal.invariant-loop-turn
invariant-loop-turn l = with_items (map view_var l.binders) (more_binders l.types (l.turn-end - l.turn) (view_ctype l.ty) l.rest) ≡ binders_from l.types (view_var l.fn.first) l.tokens
