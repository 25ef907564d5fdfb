use Rattle.std.proofs.Common.{◌≡◌, true, subst, sym, map}
use Rattle.std.specs.Prelude.{◌≤ℤ◌, ◌+ℤ◌}
use Rattle.linear_chains.specs.Links.{Step}
use Rattle.linear_chains.specs.Tables.{number_in}
use Rattle.linear_chains.specs.View.{side_step}
use Rattle.linear_chains.proofs.Lists.{get_mapped, all_more, all_so, length_mapped}
use Rattle.linear_chains.proofs.checks.all_meet.Goals as goal

pub loop-i-preserved : goal.loop-i-preserved
loop-i-preserved c =
    let d = number_in c.args.table.now.entries c.args.numbers.now in
    let step = c.index-steps-i.result in
    let at = get_mapped side_step c.args.steps.now c.loop-i.i step c.loop-i-test.true c.index-steps-i.is in
    let from : c.number_of-from.result.total ≡ d step.from.items = cc in
    let to : c.number_of-to.result.total ≡ d step.to.items = cc in
    let met = c.meets.ensures c.if-not-meets.false in
    let P : Step → Type 0 = λ s. d s.from ≤ℤ (d s.to +ℤ s.bound) in
    all_more P (map side_step c.args.steps.now) c.loop-i.i (side_step step) at (subst (λ z. z ≤ℤ (d step.to.items +ℤ step.bound)) from (subst (λ z. c.number_of-from.result.total ≤ℤ (z +ℤ step.bound)) to met)) c.loop-i.invariant

pub returns : goal.returns
returns c t =
    let d = number_in c.args.table.now.entries c.args.numbers.now in
    let P : Step → Type 0 = λ s. d s.from ≤ℤ (d s.to +ℤ s.bound) in
    all_so P (map side_step c.args.steps.now) c.loop-i.i (length_mapped side_step c.args.steps.now c.loop-i.i c.loop-i-test.false) c.loop-i.invariant
