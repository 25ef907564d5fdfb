use Rattle.std.proofs.Common.{◌≡◌, true, ◌+◌, take, subst, sym, ◌∙◌, ap, map, length, arith, ◌≤◌, get_or}
use Rattle.linear_chains.specs.Chains.{stays}
use Rattle.linear_chains.specs.Tables.{WalkAt}
use Rattle.linear_chains.specs.View.{side_step, same_form}
use Rattle.linear_chains.proofs.Equality.{form_is}
use Rattle.linear_chains.proofs.Lists.{get_mapped, take_whole}
use Rattle.linear_chains.proofs.Walking.{walk_next}
use Rattle.linear_chains.proofs.checks.closed_total.Goals as goal

pub loop-i-init : goal.loop-i-init
loop-i-init c = stays

pub loop-i-preserved : goal.loop-i-preserved
loop-i-preserved c =
    let step = c.index-steps-place.result in
    let same : same_form c.loop-i.at.now step.from.items ≡ true = cc in
    let at = get_mapped side_step c.args.steps.now (get_or c.args.places.now c.loop-i.i 0) step c.if-place-steps.false c.index-steps-place.is in
    let next = walk_next (map side_step c.args.steps.now) c.args.start.now c.args.places.now c.loop-i.i c.loop-i.at.now c.loop-i.sum.total c.in-Some.more.total (side_step step) c.loop-i-test.true at (form_is _ _ same) c.in-Some.ensures c.loop-i.invariant in
    subst (λ r. WalkAt (map side_step c.args.steps.now) c.args.start.now (take (c.loop-i.i + 1) c.args.places.now) r c.in-Some.more.total) (sym c.as_slice-at.ensures.value) next

pub returns-then-same_sides : goal.returns-then-same_sides
returns-then-same_sides c =
    let same : same_form c.loop-i.at.now c.args.start.now ≡ true = cc in
    let all = take_whole c.args.places.now c.loop-i.i c.loop-i-test.false in
    let back = form_is c.loop-i.at.now c.args.start.now same in
    subst (λ r. WalkAt (map side_step c.args.steps.now) c.args.start.now c.args.places.now r c.loop-i.sum.total) back (subst (λ r. WalkAt (map side_step c.args.steps.now) c.args.start.now r c.loop-i.at.now c.loop-i.sum.total) all c.loop-i.invariant)
