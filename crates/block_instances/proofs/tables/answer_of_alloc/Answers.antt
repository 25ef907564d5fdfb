use Rattle.std.proofs.Common.{[], ◌∷◌}
use Rattle.drawn_instances.proofs.DrawnLaws.{none_drawn, drawn_over, held_three}
use Rattle.block_instances.proofs.AllocLaws.{alloc_unmade, alloc_unfit, alloc_seen}
use Rattle.block_instances.proofs.tables.answer_of_alloc.Goals as goal

pub returns-in_default-layout_made : goal.returns-in_default-layout_made
returns-in_default-layout_made g c =
    let none = c.no_instances-in_default-layout_made.ensures in
    none_drawn _ _ _ _ _ none.ids none.formulas (alloc_unmade _ _ _ c.in-Some.query c.head.result.now c.in-Some.ensures c.head.ensures c.in_default-layout_made.ensures)

pub returns-in_default-one_kid : goal.returns-in_default-one_kid
returns-in_default-one_kid g c =
    let none = c.no_instances-in_default-one_kid.ensures in
    none_drawn _ _ _ _ _ none.ids none.formulas (alloc_unfit _ _ _ c.in-Some.query c.in-Some.ensures c.in_default-one_kid.ensures)

pub returns : goal.returns
returns g c =
    let held = g.S.TermStore.held c.args.store.now in
    let tree = g.S.TermStore.tree c.args.store.now in
    let q = c.in-Some.query in
    let asked = c.in-Some.ensures in
    let made = c.in_ok-drawn.ensures in
    alloc_seen held tree _ _ _ _ q c.head.result.now c.in-Some-layout_made.layout.now asked c.head.ensures c.in-Some-layout_made.ensures (c.in-Some-one_kid.ensures).1
    (drawn_over held tree _ _ (c.in-Some-one_kid.table ∷ q.block ∷ q.offset ∷ []) _ _ made.ids c.in_ok-ids.ensures
    (held_three held _ _ _ (c.in-Some-one_kid.ensures).0 asked.block_held asked.offset_held)
    (made.formulas _ _ (c.answer_by_block.ensures _, tt)))
