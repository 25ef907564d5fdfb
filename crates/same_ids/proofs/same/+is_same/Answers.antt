use Rattle.std.proofs.Common.{rules, ◌≡◌, true, false, arith}
use Rattle.qed_terms.specs.Order.{same, same_head}
use Rattle.same_ids.proofs.Alike.{other_head, other_count, other_kid, one_more_same, all_same, kid_held, smaller_kid}
use Rattle.same_ids.proofs.same.+is_same.Goals as goal

pub returns-then-not-same_head : goal.returns-then-not-same_head
returns-then-not-same_head g t c = other_head _ _ _ _ _ c.head.ensures c.head-2.ensures c.same_head.ensures (search rules)

pub returns-then-kids-others : goal.returns-then-kids-others
returns-then-kids-others g t c =
    let tree = g.S.TermStore.tree c.args.store.now in
    other_count tree _ _ c.kids-kids.result.now c.kids-others.result.now c.kids-kids.ensures.stand c.kids-others.ensures.stand c.if-kids-others.true

pub is_same-requires : goal.is_same-requires
is_same-requires g t c κs within =
    let tree = g.S.TermStore.tree c.args.store.now in
    let held = g.S.TermStore.held c.args.store.now in
    let ks = c.kids-kids.result.now in
    let ls = c.kids-others.result.now in
    let small = smaller_kid tree (tree c.args.left) ks c.loop-at.at c.index-kids-at.result c.kids-kids.ensures.stand c.loop-at-test.true c.index-kids-at.is in (
      omega (arith, small, c.decreases),
      (
        within.0,
        (
          within.1,
          (
            kid_held held ks c.loop-at.at c.index-kids-at.result c.kids-kids.ensures.held c.loop-at-test.true c.index-kids-at.is,
            kid_held held ls c.loop-at.at c.index-others-at.result c.kids-others.ensures.held (omega (arith, c.loop-at-test.true, c.if-kids-others.false)) c.index-others-at.is,
          ),
        ),
      ),
    )

pub returns-then-not-is_same : goal.returns-then-not-is_same
returns-then-not-is_same g t c =
    let tree = g.S.TermStore.tree c.args.store.now in
    other_kid tree _ _ c.kids-kids.result.now c.kids-others.result.now c.loop-at.at c.index-kids-at.result c.index-others-at.result c.is_same.result
    c.kids-kids.ensures.stand c.kids-others.ensures.stand c.loop-at-test.true c.if-kids-others.false c.index-kids-at.is c.index-others-at.is c.is_same.ensures (search rules)

pub loop-at-preserved : goal.loop-at-preserved
loop-at-preserved g t c =
    let tree = g.S.TermStore.tree c.args.store.now in
    one_more_same tree c.kids-kids.result.now c.kids-others.result.now c.loop-at.at c.index-kids-at.result c.index-others-at.result c.is_same.result
    c.loop-at-test.true c.if-kids-others.false c.index-kids-at.is c.index-others-at.is c.is_same.ensures (search rules) c.loop-at.invariant

pub returns : goal.returns
returns g t c =
    let tree = g.S.TermStore.tree c.args.store.now in
    all_same tree (tree c.args.left) (tree c.args.right) c.head.result.now c.head-2.result.now c.same_head.result c.kids-kids.result.now c.kids-others.result.now c.loop-at.at
    c.head.ensures c.head-2.ensures c.same_head.ensures (search rules) c.kids-kids.ensures.stand c.kids-others.ensures.stand c.if-kids-others.false c.loop-at-test.false c.loop-at.invariant
