use Rattle.std.proofs.Common.{◌≡◌, false, ap, sym, subst, map, drop, ◌+◌, ◌∷◌}
use Rattle.linear_chains.specs.Chains.{NotAmong}
use Rattle.linear_chains.specs.View.{same_form, vec_items}
use Rattle.linear_chains.proofs.Equality.{form_isnt}
use Rattle.linear_chains.proofs.Lists.{drop_next}
use Rattle.linear_chains.proofs.checks.is_new.Goals as goal

pub loop-other-preserved : goal.loop-other-preserved
loop-other-preserved c later =
    let other = c.other-item.result in
    let differ : same_form c.args.side.now other.items ≡ false = cc in
    let next = drop_next c.args.sides.now c.loop-other.other-index other c.loop-other-test.true c.other-item.is in
    c.loop-other.invariant (subst (λ r. NotAmong c.args.side.now (map vec_items r)) (sym next) (form_isnt _ _ differ, later))
