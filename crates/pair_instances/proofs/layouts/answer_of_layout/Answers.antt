use Rattle.std.proofs.Common.{[], ◌∷◌, ◌++◌, ap, ◌∙◌}
use Rattle.drawn_instances.proofs.DrawnLaws.{none_drawn, drawn_over, held_four}
use Rattle.pair_instances.proofs.LayoutRow.{layout_other, layout_seen}
use Rattle.pair_instances.proofs.layouts.answer_of_layout.Goals as goal

pub returns-then-not-is_same : goal.returns-then-not-is_same
returns-then-not-is_same g c =
    let held = g.S.TermStore.held c.args.store.now in
    let tree = g.S.TermStore.tree c.args.store.now in
    let none = c.no_instances-then-not-is_same.ensures in
    none_drawn _ _ _ _ _ none.ids none.formulas
    (layout_other held tree (tree c.args.first) (tree c.args.second) (tree (c.in-Some-two_kids.kids).0) (tree (c.in-Some-two_kids.kids).1) c.in-Some-asked_at.query c.head.result.now c.in-Some.layout.now c.is_same.result
    c.head.ensures c.in-Some.ensures (c.in-Some-two_kids.ensures).2 c.in-Some-asked_at.ensures c.is_same.ensures c.if-not-is_same.true)

pub returns : goal.returns
returns g c =
    let held = g.S.TermStore.held c.args.store.now in
    let tree = g.S.TermStore.tree c.args.store.now in
    let q = c.in-Some-asked_at.query in
    let asked = c.in-Some-asked_at.ensures in
    let kids = c.in-Some-two_kids.ensures in
    let made = c.in_ok-made.ensures in
    layout_seen held tree _ _ (tree c.args.first) (tree c.args.second) (tree (c.in-Some-two_kids.kids).0) (tree (c.in-Some-two_kids.kids).1) q c.head.result.now c.in-Some.layout.now c.is_same.result
    c.head.ensures c.in-Some.ensures kids.2 asked c.is_same.ensures c.if-not-is_same.false
    (drawn_over held tree _ _ ((c.in-Some-two_kids.kids).0 ∷ (c.in-Some-two_kids.kids).1 ∷ q.block ∷ q.offset ∷ []) _ _ made.ids (c.in_ok-push.ensures.items ∙ ap (λ is. is ++ q.offset ∷ []) c.in_ok-ids.ensures)
    (held_four held _ _ _ _ kids.0 kids.1 asked.block_held asked.offset_held)
    (made.formulas _ _ (c.answer_by_layout.ensures _, tt)))
