use Rattle.std.proofs.Common.{◌≡◌, All, [], map, sym, ◌∙◌, ap, subst}
use Rattle.std.proofs.lemmas.List.Elements.{All-push}
use Rattle.qed_terms.proofs.Kept.{kept_over, held_more}
use Rattle.term_sketches.proofs.Made.{one_more, kids_made}
use Rattle.term_sketches.proofs.make.+make_sketch.Goals as goal

pub loop-part-preserved : goal.loop-part-preserved
loop-part-preserved g t c =
    let tree = g.S.TermStore.tree in
    let held = g.S.TermStore.held in
    let s = c.args.store.now in
    let s' = c.loop-part.store in
    let s'' = c.make_sketch.new.store in
    let kept = c.in_ok-id-in-Over.ensures.older in
    let there = c.loop-part.made.items in
    let id = c.in_ok-id-in-Over.id in
    let before = c.loop-part.invariant in
    record {
      kept = kept_over (held s) (held s') (held s'') (tree s) (tree s') (tree s'') before.kept kept;
      made_held = subst (All (held s'')) (sym c.in_ok-push-in-Over.ensures.items) (All-push (held s'') there id (held_more (held s') (held s'') (tree s') (tree s'') there kept before.made_held) c.in_ok-id-in-Over.ensures.held);
      made = ap (map (tree s'')) c.in_ok-push-in-Over.ensures.items
          ∙ one_more (held s) (held s') (held s'') (tree s) (tree s') (tree s'') c.args.ids.now there [] c.loop-part.part-index c.as_slice-parts.result.now c.part-item.result id
          before.kept kept c.requires before.made_held before.made c.loop-part-test.true c.part-item.is c.in_ok-id-in-Over.ensures.stands;
    }

pub returns-in_ok-id-in-Over-2-clause-stands : goal.returns-in_ok-id-in-Over-2-clause-stands
returns-in_ok-id-in-Over-2-clause-stands g t c =
    let tree = g.S.TermStore.tree in
    c.in_ok-id-in-Over-2.ensures.stands
    ∙ kids_made (tree c.args.store.now) (tree c.loop-part.store) c.args.ids.now c.loop-part.made.items c.as_slice.result.now c.loop-part.part-index c.as_slice-parts.result.now _ _ c.args.sketch.now
    c.as_slice.ensures.value c.loop-part.invariant.made c.loop-part-test.false c.as_slice-parts.ensures c.in-Over.is
