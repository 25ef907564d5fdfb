use Rattle.std.proofs.Common.{◌≤ℤ◌, pos, to_z, of_z, FitsSigned, rules}
use Rattle.std.specs.Int.{w128}
use Rattle.std.proofs.lemmas.Int.{to_z-of_z}
use Rattle.drawn_instances.proofs.DrawnLaws.{drawn_over, held_two}
use Rattle.node_instances.proofs.OperatorLaws.{shift_seen}
use Rattle.node_instances.proofs.operators.at_shift.Goals as goal

pub returns : goal.returns
returns g c =
    let held = g.S.TermStore.held c.args.store.now in
    let tree = g.S.TermStore.tree c.args.store.now in
    let made = c.in_ok-made.ensures in
    let n = c.in-Some.by in
    let k = c.power_of.result in
    let fits : FitsSigned w128 n = search rules in
    let power_fits : FitsSigned w128 k = search rules in
    let low : pos 1 ≤ℤ to_z w128 (of_z w128 n) = search rules in
    let high : to_z w128 (of_z w128 n) ≤ℤ pos 126 = search rules in
    shift_seen held tree _ _ _ _ c.number_at.result n _ k _ c.number_at.ensures c.in-Some.is (to_z-of_z w128 n fits) low high c.power_of.ensures.power (to_z-of_z w128 k power_fits)
    (drawn_over held tree _ _ _ _ _ made.ids c.in_ok-ids.ensures (held_two held _ _ c.requires.left c.requires.right)
    (made.formulas _ _ (c.shift_bounds.ensures _, tt)))
