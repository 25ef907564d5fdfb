use Rattle.std.proofs.Common.{◌++◌, map, sym, ◌∙◌, ap, arith}
use Rattle.std.proofs.lemmas.List.{map_push}
use Rattle.same_terms.specs.SameTerms.{is_binder}
use Rattle.instance_rows.specs.Occurrences.{nodes_among}
use Rattle.tree_places.proofs.Nodes.{kid_less, kid_held}
use Rattle.branch_occurrences.proofs.Gathered.{of_node, all_done}
use Rattle.branch_occurrences.proofs.nodes.+push_nodes.Goals as goal

pub push_nodes-requires : goal.push_nodes-requires
push_nodes-requires g t c κs within =
    let tree = g.S.TermStore.tree c.args.store.now in
    let less = kid_less tree c.kids-kids.result.now c.loop-kid.kid-index c.kid-item.result (tree c.args.id) c.loop-kid-test.true c.kid-item.is c.kids-kids.ensures.stand in
    let d = c.decreases in
    (omega (arith, less, d), (within.0, (within.1, (kid_held (g.S.TermStore.held c.args.store.now) c.kids-kids.result.now c.loop-kid.kid-index c.kid-item.result c.kids-kids.ensures.held c.loop-kid-test.true c.kid-item.is, c.loop-kid.invariant.held))))

pub returns-clause-nodes : goal.returns-clause-nodes
returns-clause-nodes g t c =
    let tree = g.S.TermStore.tree c.args.store.now in
    let kids = c.kids-kids.result.now in
    let other = sym (ap is_binder c.head.ensures) ∙ sym c.is_binder.ensures ∙ c.if-is_binder.false in
    all_done tree kids c.loop-kid.kid-index (map tree c.loop-kid.out.items) _ c.loop-kid-test.false c.loop-kid.invariant.nodes
    ∙ (λ i. (ap (map tree) c.in_ok-push.ensures.items ∙ map_push tree c.args.out.now.items c.args.id) i ++ nodes_among (map tree kids))
    ∙ of_node (map tree c.args.out.now.items) (map tree kids) (tree c.args.id) other c.kids-kids.ensures.stand
