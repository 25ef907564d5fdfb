use Rattle.std.proofs.Common.{◌<◌, sym, ◌∙◌, ap, subst, arith}
use Rattle.qed_terms.specs.Free.{is_this}
use Rattle.qed_terms.specs.Tree.{size}
use Rattle.equality_variables.proofs.OpenKids.{by_head, free_later, free_here, free_nowhere}
use Rattle.equality_variables.proofs.free.+is_free.Goals as goal

pub returns-then-is_this : goal.returns-then-is_this
returns-then-is_this g t c = by_head c.args.name.now c.args.sort (g.S.TermStore.tree c.args.store.now c.args.id) (ap (is_this c.args.name.now c.args.sort) (sym c.head.ensures) ∙ sym c.is_this.ensures ∙ c.if-is_this.true)

pub loop-at-init : goal.loop-at-init
loop-at-init g t c = c.open_kids-kids.ensures.open (ap (is_this c.args.name.now c.args.sort) (sym c.head.ensures) ∙ sym c.is_this.ensures ∙ c.if-is_this.false)

pub is_free-requires : goal.is_free-requires
is_free-requires g t c κs within =
    let tree = g.S.TermStore.tree c.args.store.now in
    let id = c.index-kids-at.result in
    let smaller = subst (λ k. size (tree k) < size (tree c.args.id)) (sym c.index-kids-at.is) (c.open_kids-kids.ensures.smaller c.loop-at.at id c.loop-at-test.true) in
    let d = c.decreases in
    (omega (arith, smaller, d), (within.0, (within.1, subst (g.S.TermStore.held c.args.store.now) (sym c.index-kids-at.is) (c.open_kids-kids.ensures.held c.loop-at.at id c.loop-at-test.true))))

pub loop-at-preserved : goal.loop-at-preserved
loop-at-preserved g t c =
    let tree = g.S.TermStore.tree c.args.store.now in
    free_later c.args.name.now c.args.sort tree c.open_kids-kids.result.now c.loop-at.at _ c.index-kids-at.result c.loop-at-test.true c.index-kids-at.is (sym c.is_free.ensures ∙ c.if-is_free.false) c.loop-at.invariant

pub returns-then-is_free : goal.returns-then-is_free
returns-then-is_free g t c =
    let tree = g.S.TermStore.tree c.args.store.now in
    free_here c.args.name.now c.args.sort tree c.open_kids-kids.result.now c.loop-at.at _ c.index-kids-at.result c.loop-at-test.true c.index-kids-at.is (sym c.is_free.ensures ∙ c.if-is_free.true) c.loop-at.invariant

pub returns : goal.returns
returns g t c =
    let tree = g.S.TermStore.tree c.args.store.now in
    free_nowhere c.args.name.now c.args.sort tree c.open_kids-kids.result.now c.loop-at.at _ c.loop-at-test.false c.loop-at.invariant
