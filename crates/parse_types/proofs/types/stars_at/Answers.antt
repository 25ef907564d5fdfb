use Rattle.std.proofs.Common.{sym, ◌∙◌, arith}
use Rattle.parse_types.proofs.Reading.{stars_all, stars_stop, stars_end}
use Rattle.parse_types.proofs.types.stars_at.Goals as goal

pub returns-in_default : goal.returns-in_default
returns-in_default c = stars_all _ _ _ ∙ sym c.loop-turn.invariant ∙ stars_stop _ _ _ _ c.in_default.ensures

pub returns : goal.returns
returns c = stars_all _ _ _ ∙ sym c.loop-turn.invariant ∙ stars_end _ _ _ _ (omega arith)
