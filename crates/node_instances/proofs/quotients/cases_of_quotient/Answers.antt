use Rattle.std.proofs.Common.{◌≤ℤ◌, ◌<ℤ◌, pos, to_z, of_z, FitsSigned, rules}
use Rattle.std.specs.Int.{w128}
use Rattle.std.proofs.lemmas.Int.{to_z-of_z}
use Rattle.drawn_instances.proofs.DrawnLaws.{none_drawn, drawn_over, held_two}
use Rattle.node_instances.proofs.QuotientLaws.{small_divisor, quotient_seen}
use Rattle.node_instances.proofs.quotients.cases_of_quotient.Goals as goal

pub returns-then-by-lt2 : goal.returns-then-by-lt2
returns-then-by-lt2 g c =
    let by = c.in-Some-number_at.by in
    let fits : FitsSigned w128 by = search rules in
    let low : to_z w128 (of_z w128 by) <ℤ pos 2 = search rules in
    let none = c.no_instances-then-by-lt2.ensures in
    none_drawn _ _ _ _ _ none.ids none.formulas
    (small_divisor _ _ _ c.look.result c.number_at.result by _ (c.in-Some.ensures).2 c.number_at.ensures c.in-Some-number_at.is (to_z-of_z w128 by fits) low)

pub returns : goal.returns
returns g c =
    let held = g.S.TermStore.held c.args.store.now in
    let tree = g.S.TermStore.tree c.args.store.now in
    let made = c.in_ok-made.ensures in
    let kids = c.in-Some.ensures in
    let by = c.in-Some-number_at.by in
    let fits : FitsSigned w128 by = search rules in
    let high : pos 2 ≤ℤ to_z w128 (of_z w128 by) = search rules in
    quotient_seen held tree _ _ _ _ _ c.look.result c.number_at.result by _ c.look.ensures c.in-Div.is kids.2 c.number_at.ensures c.in-Some-number_at.is (to_z-of_z w128 by fits) high
    (drawn_over held tree _ _ _ _ _ made.ids c.in_ok-ids.ensures (held_two held _ _ kids.0 kids.1)
    (made.formulas _ _ (c.above_zero.ensures _, (c.smaller.ensures _, (c.up_to_zero.ensures _, tt)))))
