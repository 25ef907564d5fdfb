use Rattle.std.proofs.Common.{◌≡◌, [], ◌∷◌, ◌++◌, map, drop, length, ap, sym, ◌∙◌, rules}
use Rattle.std.proofs.lemmas.List.{length-map}
use Rattle.qed_terms.specs.Tree.{trees_of}
use Rattle.term_sketches.specs.Sketches.{slots}
use Rattle.instance_rows.specs.PairRows.{agreement}
use Rattle.drawn_instances.proofs.DrawnLaws.{none_drawn}
use Rattle.pair_instances.proofs.FrameLaws.{frame_unseen, frame_unloaded, frame_short, frame_other, frame_seen}
use Rattle.pair_instances.proofs.frames.frame_of_load.Goals as goal

pub returns-in_default : goal.returns-in_default
returns-in_default g c =
    let none = c.no_instances.ensures in
    none_drawn _ _ _ _ _ none.ids none.formulas (frame_unseen _ _ c.head.result.now c.head.ensures c.in_default.ensures)

pub returns-in_default-load_at : goal.returns-in_default-load_at
returns-in_default-load_at g c =
    let none = c.no_instances-in_default-load_at.ensures in
    none_drawn _ _ _ _ _ none.ids none.formulas (frame_unloaded _ _ c.in_default-load_at.ensures.load)

pub returns-then-kids-lt2 : goal.returns-then-kids-lt2
returns-then-kids-lt2 g c =
    let none = c.no_instances-then-kids-lt2.ensures in
    none_drawn _ _ _ _ _ none.ids none.formulas (frame_short _ c.kids-kids.result.now _ _ c.kids-kids.ensures.stand c.if-kids-lt2.true)

pub returns-then-not-is_same : goal.returns-then-not-is_same
returns-then-not-is_same g c =
    let tree = g.S.TermStore.tree c.args.store.now in
    let none = c.no_instances-then-not-is_same.ensures in
    none_drawn _ _ _ _ _ none.ids none.formulas
    (frame_other tree (tree c.args.first) (tree c.args.second) c.head.result.now c.in-Some.shapes.now c.in-Some-load_at.load c.head.ensures c.in-Some.ensures c.in-Some-load_at.ensures.load
    c.kids-kids.result.now c.index-kids-1.result c.is_same.result c.kids-kids.ensures.stand c.if-kids-lt2.false c.index-kids-1.is c.is_same.ensures c.if-not-is_same.true)

pub returns : goal.returns
returns g c =
    let tree = g.S.TermStore.tree c.args.store.now in
    let held = g.S.TermStore.held c.args.store.now in
    let ks = c.kids-kids.result.now in
    let l = c.in-Some-load_at.load in
    let there = c.in-Some-load_at.ensures.held in
    let given = c.extend_from_slice.new.self.items in
    let whole : given ≡ (l.block ∷ l.offset ∷ []) ++ ks = c.in_ok-extend_from_slice.ensures.items ∙ ap (λ is. is ++ ks) c.in_ok-ids.ensures in
    let long : c.len-count.result ≡ length given = search rules in
    let us = map tree given in
    let made = c.in_ok-made.ensures in
    frame_seen tree (tree c.args.first) (tree c.args.second) c.head.result.now c.in-Some.shapes.now l c.head.ensures c.in-Some.ensures c.in-Some-load_at.ensures.load
    held c.in_ok-made.made.ids.items given ks c.in_ok-made.made.formulas c.index-kids-1.result c.is_same.result c.kids-kids.ensures.stand c.if-kids-lt2.false c.index-kids-1.is c.is_same.ensures c.if-not-is_same.false
    made.ids whole there.1 there.2 c.kids-kids.ensures.held
    (made.formulas (slots us) _ (c.agreement.ensures us (length-map given tree ∙ sym long), tt)
    ∙ ap (λ ss. agreement ss (trees_of (drop 4 us)) (slots us 2) (slots us 3) (slots us 0) (slots us 1) ∷ []) c.as_slice.ensures)
