use Rattle.std.proofs.Common.{sym, ◌∙◌}
use Rattle.parse_types.proofs.Reading.{consts_none, consts_stop, consts_take, consts_end, consts_turn}
use Rattle.parse_types.proofs.types.consts_at.Goals as goal

pub returns-then-not-is_const-clause-found : goal.returns-then-not-is_const-clause-found
returns-then-not-is_const-clause-found c =
    (consts_end _ _ _ c.loop-first.invariant.0 c.loop-first.invariant.1
    (consts_stop _ _ _ c.in-Some.ensures.cases.0 (sym c.is_const.ensures ∙ c.if-not-is_const.true))).0

pub returns-then-not-is_const-clause-rest : goal.returns-then-not-is_const-clause-rest
returns-then-not-is_const-clause-rest c =
    (consts_end _ _ _ c.loop-first.invariant.0 c.loop-first.invariant.1
    (consts_stop _ _ _ c.in-Some.ensures.cases.0 (sym c.is_const.ensures ∙ c.if-not-is_const.true))).1

pub loop-first-preserved : goal.loop-first-preserved
loop-first-preserved c =
    consts_turn _ _ _ _ c.loop-first.invariant.0 c.loop-first.invariant.1
    (consts_take _ _ _ c.in-Some.ensures.cases.0 (sym c.is_const.ensures ∙ c.if-not-is_const.false))

pub returns-clause-found : goal.returns-clause-found
returns-clause-found c =
    (consts_end _ _ _ c.loop-first.invariant.0 c.loop-first.invariant.1 (consts_none _ c.in_default.ensures.cases)).0

pub returns-clause-rest : goal.returns-clause-rest
returns-clause-rest c =
    (consts_end _ _ _ c.loop-first.invariant.0 c.loop-first.invariant.1 (consts_none _ c.in_default.ensures.cases)).1
