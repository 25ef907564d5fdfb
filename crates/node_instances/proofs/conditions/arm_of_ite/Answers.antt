use Rattle.drawn_instances.proofs.DrawnLaws.{drawn_over, held_three}
use Rattle.node_instances.proofs.ConditionLaws.{arm_seen}
use Rattle.node_instances.proofs.conditions.arm_of_ite.Goals as goal

pub returns : goal.returns
returns g c =
    let held = g.S.TermStore.held c.args.store.now in
    let tree = g.S.TermStore.tree c.args.store.now in
    let made = c.in_ok-made.ensures in
    let kids = c.in-Some.ensures in
    arm_seen held tree _ _ _ _ _ _ c.look.result c.look.ensures c.in-Ite.is kids.3
    (drawn_over held tree _ _ _ _ _ made.ids c.in_ok-ids.ensures (held_three held _ _ _ kids.0 kids.1 kids.2) (made.formulas _ _ (c.one_of_both.ensures _, tt)))
