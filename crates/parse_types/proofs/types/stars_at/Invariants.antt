use Rattle.std.proofs.Common.{◌≡◌, ◌-◌}
use Rattle.c_syntax.specs.View.{view_ctype}
use Rattle.parse_types.specs.Read.{more_stars}
use Rattle.parse_types.proofs.types.stars_at.Given as goal

abbrev pub invariant-loop-turn : goal.invariant-loop-turn
invariant-loop-turn l = more_stars l.consts (l.turn-end - l.turn) (view_ctype l.ty) l.rest ≡ more_stars l.consts l.turn-end (view_ctype l.fn.base) l.tokens
