use Rattle.std.proofs.Common.{◌≡◌, IfOk, ◌∙◌, ap, subst, arith}
use Rattle.qed_terms.specs.Store.{is_well_formed}
use Rattle.qed_ids.specs.Made.{made_tree}
use Rattle.qed_ids.proofs.Nodes.{whole_node}
use Rattle.qed_ids.proofs.stored.+lower_node.Goals as goal

pub build-requires : goal.build-requires
build-requires g t c =
    let tree = g.S.TermStore.tree c.args.store.now in
    let whole = whole_node tree c.kids-kid-items.result.now c.loop-kid.kid-index (tree c.args.id) c.head.result.now c.loop-kid.kids.items (omega (arith, c.loop-kid-test.false)) c.kids-kid-items.ensures.stand c.head.ensures c.loop-kid.invariant in
    ap is_well_formed whole ∙ g.met.S.TermStore.well_formed c.args.store.now c.args.id c.requires

pub returns : goal.returns
returns g t c =
    let tree = g.S.TermStore.tree c.args.store.now in
    let whole = whole_node tree c.kids-kid-items.result.now c.loop-kid.kid-index (tree c.args.id) c.head.result.now c.loop-kid.kids.items (omega (arith, c.loop-kid-test.false)) c.kids-kid-items.ensures.stand c.head.ensures c.loop-kid.invariant in
    subst (λ z. IfOk c.build.result (λ made. made_tree made ≡ z)) whole c.build.ensures
