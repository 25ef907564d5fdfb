use Rattle.std.proofs.Common.{◌<◌, map, sym, ◌∙◌, subst, arith}
use Rattle.qed_terms.specs.Tree.{size}
use Rattle.forall_instances.proofs.OpenNodes.{node_first, all_done}
use Rattle.forall_instances.proofs.nodes.+push_nodes_with.Goals as goal

pub push_nodes_with-requires : goal.push_nodes_with-requires
push_nodes_with-requires g t c κs within =
    let tree = g.S.TermStore.tree c.args.store.now in
    let k = c.kid-item.result in
    let smaller = subst (λ z. size (tree z) < size (tree c.args.id)) (sym c.kid-item.is) (c.open_kids-kids.ensures.smaller c.loop-kid.kid-index k c.loop-kid-test.true) in
    let d = c.decreases in
    let held = subst (g.S.TermStore.held c.args.store.now) (sym c.kid-item.is) (c.open_kids-kids.ensures.held c.loop-kid.kid-index k c.loop-kid-test.true) in
    (omega (arith, smaller, d), (within.0, (within.1, (held, c.loop-kid.invariant.held))))

pub returns-clause-nodes : goal.returns-clause-nodes
returns-clause-nodes g t c =
    let tree = g.S.TermStore.tree c.args.store.now in
    all_done c.args.name.now tree c.open_kids-kids.result.now c.loop-kid.kid-index (map tree c.loop-kid.out.items) _ c.loop-kid-test.false c.loop-kid.invariant.nodes
    ∙ node_first c.args.name.now tree c.args.out.now.items c.push.new.self.items c.open_kids-kids.result.now c.args.id c.in_ok-push.ensures.items c.open_kids-kids.ensures.open
