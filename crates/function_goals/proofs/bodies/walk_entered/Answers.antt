use Rattle.function_goals.proofs.Whole.{whole_goes, whole_stops}
use Rattle.function_goals.proofs.bodies.walk_entered.Goals as goal

pub returns-then-not-goes : goal.returns-then-not-goes
returns-then-not-goes g c first o closed =
    whole_stops c.in_ok-remember.ensures c.if-not-goes.true (c.in_ok-ask_together.ensures first o.world o.kinds) (c.in_ok-goes.ensures first o closed) c.forget.ensures

pub returns : goal.returns
returns g c first o closed =
    whole_goes c.in_ok-remember.ensures c.if-not-goes.false (c.in_ok-ask_together.ensures first o.world o.kinds) (c.in_ok-goes.ensures first o closed)
    (c.in_ok-ask_promises.ensures first o.world o.kinds) c.forget-2.ensures
