use Rattle.drawn_instances.proofs.DrawnLaws.{drawn_over, held_two}
use Rattle.node_instances.proofs.ConditionLaws.{unequal_sides}
use Rattle.node_instances.proofs.conditions.order_of_unequal.Goals as goal

pub returns : goal.returns
returns g c =
    let held = g.S.TermStore.held c.args.store.now in
    let tree = g.S.TermStore.tree c.args.store.now in
    let made = c.in_ok-made.ensures in
    let sides = c.in-Some-two_kids.ensures in
    unequal_sides held tree _ _ _ _ _ _ c.look.result c.look-2.result c.look.ensures c.in-Not.is (c.in-Some.ensures).1 c.look-2.ensures c.in-Equal.is sides.2
    (drawn_over held tree _ _ _ _ _ made.ids c.in_ok-ids.ensures (held_two held _ _ sides.0 sides.1) (made.formulas _ _ (c.one_is_smaller.ensures _, tt)))
