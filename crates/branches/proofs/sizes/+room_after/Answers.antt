use Rattle.std.proofs.Common.{sym, ◌∙◌, ap, subst, arith}
use Rattle.qed_terms.specs.Nodes.{room_after}
use Rattle.qed_terms.specs.Tree.{size}
use Rattle.qed_terms.proofs.Sizes.{no_room}
use Rattle.branches.proofs.Places.{room_on, room_off, room_end, room_of_kids, no_more_left}
use Rattle.branches.proofs.sizes.+room_after.Goals as goal

pub returns-then-room-eq0 : goal.returns-then-room-eq0
returns-then-room-eq0 g t c = let tree = g.S.TermStore.tree c.args.store.now in sym (ap (λ r. room_after r (size (tree c.args.id))) c.if-room-eq0.true ∙ no_room (tree c.args.id))

pub loop-at-init : goal.loop-at-init
loop-at-init g t c = record {
  less = omega (arith, c.if-room-eq0.false);
  rest = room_of_kids (g.S.TermStore.tree c.args.store.now) (g.S.TermStore.tree c.args.store.now c.args.id) c.kids-kids.result.now c.args.room c.if-room-eq0.false c.kids-kids.ensures.stand;
}

pub room_after-requires : goal.room_after-requires
room_after-requires g t c κs within =
    let less = c.loop-at.invariant.less in
    let d = c.decreases in
    (omega (arith, less, d), (within.0, (within.1, subst (g.S.TermStore.held c.args.store.now) (sym c.index-kids-at.is) (c.kids-kids.ensures.held c.loop-at.at c.index-kids-at.result c.loop-at-test.true))))

pub returns-in-None : goal.returns-in-None
returns-in-None g t c =
    room_off (g.S.TermStore.tree c.args.store.now) c.kids-kids.result.now _ c.loop-at.left c.loop-at.at c.index-kids-at.result c.loop-at-test.true c.index-kids-at.is (sym c.in-None.is ∙ c.room_after.ensures) c.loop-at.invariant.rest

pub loop-at-preserved : goal.loop-at-preserved
loop-at-preserved g t c =
    let less = c.loop-at.invariant.less in
    let left = sym c.in-Some.is ∙ c.room_after.ensures in
    let shrinks = no_more_left c.loop-at.left _ c.in-Some.rest left in
    record {
      less = omega (arith, less, shrinks);
      rest = room_on (g.S.TermStore.tree c.args.store.now) c.kids-kids.result.now _ c.loop-at.left c.loop-at.at c.in-Some.rest c.index-kids-at.result c.loop-at-test.true c.index-kids-at.is left c.loop-at.invariant.rest;
    }

pub returns : goal.returns
returns g t c = room_end (g.S.TermStore.tree c.args.store.now) c.kids-kids.result.now _ c.loop-at.left c.loop-at.at c.loop-at-test.false c.loop-at.invariant.rest
