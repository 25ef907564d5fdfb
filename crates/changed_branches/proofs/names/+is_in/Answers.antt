use Rattle.std.proofs.Common.{sym, ◌∙◌, ap, subst, arith}
use Rattle.branch_changes.specs.NewNames.{is_named}
use Rattle.changed_branches.proofs.Naming.{name_later, name_here, name_nowhere, by_kids, by_head, kid_smaller}
use Rattle.changed_branches.proofs.names.+is_in.Goals as goal

pub returns-then-is_named : goal.returns-then-is_named
returns-then-is_named g t c = by_head c.args.name.now (g.S.TermStore.tree c.args.store.now c.args.id) (ap (is_named c.args.name.now) (sym c.head.ensures) ∙ sym c.is_named.ensures ∙ c.if-is_named.true)

pub loop-at-init : goal.loop-at-init
loop-at-init g t c =
    let tree = g.S.TermStore.tree c.args.store.now in
    by_kids tree c.args.name.now (tree c.args.id) c.kids-kids.result.now (ap (is_named c.args.name.now) (sym c.head.ensures) ∙ sym c.is_named.ensures ∙ c.if-is_named.false) c.kids-kids.ensures.stand

pub is_in-requires : goal.is_in-requires
is_in-requires g t c κs within =
    let tree = g.S.TermStore.tree c.args.store.now in
    let smaller = kid_smaller tree (tree c.args.id) c.kids-kids.result.now c.loop-at.at c.index-kids-at.result c.kids-kids.ensures.stand c.loop-at-test.true c.index-kids-at.is in
    let d = c.decreases in
    (omega (arith, smaller, d), (within.0, (within.1, subst (g.S.TermStore.held c.args.store.now) (sym c.index-kids-at.is) (c.kids-kids.ensures.held c.loop-at.at c.index-kids-at.result c.loop-at-test.true))))

pub loop-at-preserved : goal.loop-at-preserved
loop-at-preserved g t c =
    let tree = g.S.TermStore.tree c.args.store.now in
    name_later tree c.args.name.now c.kids-kids.result.now c.loop-at.at _ c.index-kids-at.result c.loop-at-test.true c.index-kids-at.is (sym c.is_in.ensures ∙ c.if-is_in.false) c.loop-at.invariant

pub returns-then-is_in : goal.returns-then-is_in
returns-then-is_in g t c =
    let tree = g.S.TermStore.tree c.args.store.now in
    name_here tree c.args.name.now c.kids-kids.result.now c.loop-at.at _ c.index-kids-at.result c.loop-at-test.true c.index-kids-at.is (sym c.is_in.ensures ∙ c.if-is_in.true) c.loop-at.invariant

pub returns : goal.returns
returns g t c =
    let tree = g.S.TermStore.tree c.args.store.now in
    name_nowhere tree c.args.name.now c.kids-kids.result.now c.loop-at.at _ c.loop-at-test.false c.loop-at.invariant
