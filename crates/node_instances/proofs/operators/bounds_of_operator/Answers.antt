use Rattle.drawn_instances.proofs.DrawnLaws.{drawn_over, held_two}
use Rattle.node_instances.proofs.OperatorLaws.{remainder_seen, shift_at, common_bits_seen}
use Rattle.node_instances.proofs.operators.bounds_of_operator.Goals as goal

pub returns-in_ok-made-in-Mod : goal.returns-in_ok-made-in-Mod
returns-in_ok-made-in-Mod g c =
    let held = g.S.TermStore.held c.args.store.now in
    let tree = g.S.TermStore.tree c.args.store.now in
    let made = c.in_ok-made-in-Mod.ensures in
    let kids = c.in-Some.ensures in
    remainder_seen held tree _ _ _ _ _ c.look.result c.look.ensures c.in-Mod.is kids.2
    (drawn_over held tree _ _ _ _ _ made.ids c.in_ok-ids-in-Mod.ensures (held_two held _ _ kids.0 kids.1) (made.formulas _ _ (c.remainder_case.ensures _, tt)))

pub returns-in_ok-made-in-ShiftRight : goal.returns-in_ok-made-in-ShiftRight
returns-in_ok-made-in-ShiftRight g c =
    let held = g.S.TermStore.held c.args.store.now in
    let tree = g.S.TermStore.tree c.args.store.now in
    shift_at held tree _ _ _ _ _ c.look.result c.look.ensures c.in-ShiftRight.is (c.in-Some.ensures).2 c.in_ok-made-in-ShiftRight.ensures

pub returns-in_ok-made-in-BitAnd : goal.returns-in_ok-made-in-BitAnd
returns-in_ok-made-in-BitAnd g c =
    let held = g.S.TermStore.held c.args.store.now in
    let tree = g.S.TermStore.tree c.args.store.now in
    let made = c.in_ok-made-in-BitAnd.ensures in
    let kids = c.in-Some.ensures in
    common_bits_seen held tree _ _ _ _ _ c.look.result c.look.ensures c.in-BitAnd.is kids.2
    (drawn_over held tree _ _ _ _ _ made.ids c.in_ok-ids-in-BitAnd.ensures (held_two held _ _ kids.0 kids.1) (made.formulas _ _ (c.common_bits_case.ensures _, tt)))
