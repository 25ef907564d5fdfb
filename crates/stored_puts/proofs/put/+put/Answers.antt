use Rattle.std.proofs.Common.{◌≡◌, ◌<◌, ◌≤◌, false, All, map, length, sym, ◌∙◌, ap, subst, arith}
use Rattle.std.proofs.lemmas.List.{length-map}
use Rattle.std.proofs.lemmas.List.Elements.{All-push}
use Rattle.qed_terms.specs.Free.{binds}
use Rattle.qed_terms.specs.Nodes.{kids_of}
use Rattle.qed_terms.specs.Store.{is_well_formed}
use Rattle.qed_terms.specs.Tree.{head_of}
use Rattle.qed_terms.proofs.Kept.{kept_over, kids_more, held_more}
use Rattle.branch_changes.specs.Givens.{may_stand_for}
use Rattle.stored_puts.specs.Kids.{is_place, kids_put}
use Rattle.stored_puts.proofs.PutFits.{put_fits}
use Rattle.stored_puts.proofs.PutKids.{put_is, put_here, kids_count, kid_made, node_over}
use Rattle.stored_puts.proofs.StoredKids.{kid_less, kid_held, kid_is, kid_below}
use Rattle.stored_puts.proofs.put.+put.Goals as goal

pub put_in-returns-then-is_place-clause-put : goal.put_in-returns-then-is_place-clause-put
put_in-returns-then-is_place-clause-put g t c =
    let tree = g.S.TermStore.tree c.args.store.now in
    let same = c.in_ok-head.ensures ∙ c.head.ensures in
    let given = c.args.given.now in
    let place = ap (is_place given.sort given.name) (sym same) ∙ ap (λ n. is_place given.sort n c.in_ok-head.head) (sym c.bytes.ensures) ∙ sym c.is_place.ensures ∙ c.if-is_place.true in
    put_here c.args.given.now.name (tree c.args.given.now.term) c.args.given.now.sort (tree c.args.id) place

pub put_in-kids-current-requires : goal.put_in-kids-current-requires
put_in-kids-current-requires g t c = c.loop-at.invariant.kept.still_held c.args.id c.requires.held

pub put_in-bounds-current-at : goal.put_in-bounds-current-at
put_in-bounds-current-at g t c =
    let tree = g.S.TermStore.tree in
    let same = c.loop-at.invariant.kept.same_tree c.args.id c.requires.held in
    kid_below (tree c.args.store.now) (tree c.loop-at.store) (tree c.args.store.now c.args.id) c.kids-before.result.now c.kids-current.result.now c.loop-at.at c.kids-before.ensures.stand (c.kids-current.ensures.stand ∙ ap kids_of same) c.loop-at-test.true

pub put_in-offset_bounds-current-at : goal.put_in-offset_bounds-current-at
put_in-offset_bounds-current-at g t c =
    let tree = g.S.TermStore.tree in
    let same = c.loop-at.invariant.kept.same_tree c.args.id c.requires.held in
    let k = kid_below (tree c.args.store.now) (tree c.loop-at.store) (tree c.args.store.now c.args.id) c.kids-before.result.now c.kids-current.result.now c.loop-at.at c.kids-before.ensures.stand (c.kids-current.ensures.stand ∙ ap kids_of same) c.loop-at-test.true in
    omega (arith, k)

pub put_in-put_kid-requires : goal.put_in-put_kid-requires
put_in-put_kid-requires g t c κs within =
    let tree = g.S.TermStore.tree in
    let held = g.S.TermStore.held in
    let kept = c.loop-at.invariant.kept in
    let stand = c.kids-current.ensures.stand ∙ ap kids_of (kept.same_tree c.args.id c.requires.held) in
    let ids = c.kids-current.result.now in
    let k = kid_below (tree c.args.store.now) (tree c.loop-at.store) (tree c.args.store.now c.args.id) c.kids-before.result.now ids c.loop-at.at c.kids-before.ensures.stand stand c.loop-at-test.true in
    let less = kid_less (tree c.loop-at.store) ids c.loop-at.at c.index-current-at.result (tree c.args.store.now c.args.id) k c.index-current-at.is stand in
    let d = c.decreases in
    let term = kept.still_held c.args.given.now.term c.requires.term in
    let stands = ap (may_stand_for c.args.given.now.sort) (kept.same_tree c.args.given.now.term c.requires.term) ∙ c.requires.stands in
    let kid = kid_held (held c.loop-at.store) ids c.loop-at.at c.index-current-at.result c.kids-current.ensures.held k c.index-current-at.is in
    (omega (arith, less, d), (within.0, (within.1, (term, (stands, kid)))))

pub put_in-loop-at-preserved : goal.put_in-loop-at-preserved
put_in-loop-at-preserved g t c =
    let tree = g.S.TermStore.tree in
    let held = g.S.TermStore.held in
    let s = c.args.store.now in
    let s' = c.loop-at.store in
    let s'' = c.put_kid.new.store in
    let kept = c.loop-at.invariant.kept in
    let later = c.in_ok-made.ensures.older in
    let given = c.args.given.now in
    let ids = c.kids-current.result.now in
    let stand = c.kids-current.ensures.stand ∙ ap kids_of (kept.same_tree c.args.id c.requires.held) in
    let kids = kids_of (tree s c.args.id) in
    let made = kids_put given.sort given.name (tree s given.term) c.binds-bound.result 0 kids in
    let count = length-map c.kids-before.result.now (tree s) in
    let same_count = ap length c.kids-before.ensures.stand in
    let k0 : c.loop-at.at < length kids = omega (arith, c.loop-at-test.true, count, same_count) in
    let k = kid_below (tree s) (tree s') (tree s c.args.id) c.kids-before.result.now ids c.loop-at.at c.kids-before.ensures.stand stand c.loop-at-test.true in
    let made_count = kids_count given.name (tree s given.term) given.sort c.binds-bound.result 0 kids in
    let k1 : c.loop-at.at < length made = omega (arith, k0, made_count) in
    record {
      same_head = c.loop-at.invariant.same_head;
      kept = kept_over (held s) (held s') (held s'') (tree s) (tree s') (tree s'') kept later;
      ids_held = subst (All (held s'')) (sym c.in_ok-push.ensures.items) (All-push (held s'') c.loop-at.kids.items c.in_ok-made.made (held_more (held s') (held s'') (tree s') (tree s'') c.loop-at.kids.items later c.loop-at.invariant.ids_held) c.in_ok-made.ensures.held);
      so_far = ap (map (tree s'')) c.in_ok-push.ensures.items
          ∙ kids_more (held s') (held s'') (tree s') (tree s'') c.loop-at.kids.items c.in_ok-made.made made c.loop-at.at later c.loop-at.invariant.ids_held c.loop-at.invariant.so_far k1
          (kid_made given.name (tree s given.term) given.sort c.binds-bound.result (tree s' given.term) (tree s' c.index-current-at.result) (tree s'' c.in_ok-made.made) c.is_body.result kids c.loop-at.at
          (kept.same_tree given.term c.requires.term) (kid_is (tree s') ids c.loop-at.at c.index-current-at.result (tree s c.args.id) k c.index-current-at.is stand) c.is_body.ensures c.in_ok-made.ensures.put k0);
    }

pub put_in-make-requires-clause-fit : goal.put_in-make-requires-clause-fit
put_in-make-requires-clause-fit g t c =
    let tree = g.S.TermStore.tree c.loop-at.store in
    let before = g.S.TermStore.tree c.args.store.now in
    let given = c.args.given.now in
    let same = c.loop-at.invariant.same_head in
    let first = c.in_ok-head.ensures ∙ c.head.ensures in
    let other : is_place given.sort given.name (head_of (before c.args.id)) ≡ false =
    ap (is_place given.sort given.name) (sym first) ∙ ap (λ n. is_place given.sort n c.in_ok-head.head) (sym c.bytes.ensures) ∙ sym c.is_place.ensures ∙ c.if-is_place.false in
    let bound = c.binds-bound.ensures ∙ ap (λ n. binds n given.sort c.in_ok-head.head) c.bytes-2.ensures ∙ ap (binds given.name given.sort) first in
    let count = length-map c.kids-before.result.now before in
    let same_count = ap length c.kids-before.ensures.stand in
    let all : length (kids_of (before c.args.id)) ≤ c.loop-at.at = omega (arith, c.loop-at-test.false, count, same_count) in
    let so_far = ap (map tree) c.as_slice.ensures.value ∙ c.loop-at.invariant.so_far in
    ap is_well_formed (node_over given.name (before given.term) given.sort (before c.args.id) _ c.binds-bound.result c.loop-at.at (map tree c.as_slice.result.now) same bound so_far all)
    ∙ put_fits given.name (before given.term) given.sort (before c.args.id) c.requires.stands (g.met.S.TermStore.well_formed c.args.store.now c.args.id c.requires.held) other

pub put_in-returns-clause-put : goal.put_in-returns-clause-put
put_in-returns-clause-put g t c =
    let tree = g.S.TermStore.tree c.loop-at.store in
    let before = g.S.TermStore.tree c.args.store.now in
    let given = c.args.given.now in
    let same = c.loop-at.invariant.same_head in
    let first = c.in_ok-head.ensures ∙ c.head.ensures in
    let other : is_place given.sort given.name (head_of (before c.args.id)) ≡ false =
    ap (is_place given.sort given.name) (sym first) ∙ ap (λ n. is_place given.sort n c.in_ok-head.head) (sym c.bytes.ensures) ∙ sym c.is_place.ensures ∙ c.if-is_place.false in
    let bound = c.binds-bound.ensures ∙ ap (λ n. binds n given.sort c.in_ok-head.head) c.bytes-2.ensures ∙ ap (binds given.name given.sort) first in
    let count = length-map c.kids-before.result.now before in
    let same_count = ap length c.kids-before.ensures.stand in
    let all : length (kids_of (before c.args.id)) ≤ c.loop-at.at = omega (arith, c.loop-at-test.false, count, same_count) in
    let so_far = ap (map tree) c.as_slice.ensures.value ∙ c.loop-at.invariant.so_far in
    c.in_ok-whole.ensures.stands
    ∙ node_over given.name (before given.term) given.sort (before c.args.id) _ c.binds-bound.result c.loop-at.at (map tree c.as_slice.result.now) same bound so_far all
    ∙ put_is given.name (before given.term) given.sort (before c.args.id) (g.met.S.TermStore.well_formed c.args.store.now c.args.id c.requires.held) other
