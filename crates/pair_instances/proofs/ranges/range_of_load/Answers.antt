use Rattle.std.proofs.Common.{[], ◌∷◌, ◌++◌, ap, subst, sym, ◌∙◌}
use Rattle.drawn_instances.specs.Drawn.{AreDrawn}
use Rattle.drawn_instances.proofs.DrawnLaws.{none_drawn, drawn_over, held_four}
use Rattle.branch_accesses.specs.Ids.{load_of}
use Rattle.pair_instances.specs.Formed.{formed_of}
use Rattle.pair_instances.proofs.RangeRow.{range_unformed, range_unloaded, range_other, range_seen}
use Rattle.pair_instances.proofs.ranges.range_of_load.Goals as goal

pub returns-in_default : goal.returns-in_default
returns-in_default g c =
    let tree = g.S.TermStore.tree c.args.store.now in
    let none = c.no_instances.ensures in
    none_drawn _ _ _ _ _ none.ids none.formulas (range_unformed c.args.long_bits (tree c.args.first) (tree c.args.second) c.in_default.ensures.formed)

pub returns-in_default-load_at : goal.returns-in_default-load_at
returns-in_default-load_at g c =
    let tree = g.S.TermStore.tree c.args.store.now in
    let none = c.no_instances-in_default-load_at.ensures in
    none_drawn _ _ _ _ _ none.ids none.formulas (range_unloaded c.args.long_bits (tree c.args.first) (tree c.args.second) c.in_default-load_at.ensures.load)

pub returns-then-not-is_same : goal.returns-then-not-is_same
returns-then-not-is_same g c =
    let tree = g.S.TermStore.tree c.args.store.now in
    let none = c.no_instances-then-not-is_same.ensures in
    none_drawn _ _ _ _ _ none.ids none.formulas
    (range_other c.args.long_bits (tree c.args.first) (tree c.args.second) (formed_of tree c.in-Some.formed) (load_of tree c.in-Some-load_at.load) c.is_same.result
    c.in-Some.ensures.formed c.in-Some-load_at.ensures.load c.is_same.ensures c.if-not-is_same.true)

pub returns : goal.returns
returns g c =
    let held = g.S.TermStore.held c.args.store.now in
    let tree = g.S.TermStore.tree c.args.store.now in
    let w = c.in-Some.formed in
    let l = c.in-Some-load_at.load in
    let made = c.in_ok-made.ensures in
    let row = range_seen c.args.long_bits (tree c.args.first) (tree c.args.second) (formed_of tree w) (load_of tree l) c.is_same.result
    c.in-Some.ensures.formed c.in-Some-load_at.ensures.load c.is_same.ensures c.if-not-is_same.false in
    subst (AreDrawn held tree _ _) (sym row)
    (drawn_over held tree _ _ (l.block ∷ l.offset ∷ w.memory ∷ w.table ∷ []) _ _ made.ids (c.in_ok-push.ensures.items ∙ ap (λ is. is ++ w.table ∷ []) c.in_ok-ids.ensures)
    (held_four held _ _ _ _ (c.in-Some-load_at.ensures.held).1 (c.in-Some-load_at.ensures.held).2 (c.in-Some.ensures.held).1 (c.in-Some.ensures.held).0)
    (made.formulas _ _ (c.cell_range.ensures _, tt)))
