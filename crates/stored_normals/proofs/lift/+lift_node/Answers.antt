use Rattle.std.proofs.Common.{◌<◌, ◌≤◌, All, map, length, sym, ◌∙◌, ap, subst, arith}
use Rattle.std.proofs.lemmas.List.Elements.{All-push}
use Rattle.qed_terms.specs.Tree.{size}
use Rattle.qed_terms.specs.Nodes.{node_tree, kids_of}
use Rattle.qed_terms.proofs.Sizes.{size-kid}
use Rattle.qed_terms.proofs.Kept.{kept_over, kids_more, held_more, same_over}
use Rattle.stored_normals.proofs.lift.+lift_node.Goals as goal

pub loop-at-preserved : goal.loop-at-preserved
loop-at-preserved g t c =
    let tree = g.S.TermStore.tree in
    let held = g.S.TermStore.held in
    let s = c.args.store.now in
    let s' = c.loop-at.store in
    let s'' = c.lift_node.new.store in
    let kept = c.in_ok-kid.ensures.older in
    let ids = c.loop-at.kids.items in
    let id = c.in_ok-kid.kid in
    let ts = kids_of (node_tree c.args.node) in
    let k : c.loop-at.at < length ts = omega (arith, c.loop-at-test.true, c.kid_count-count.ensures) in
    record {
      same_head = c.loop-at.invariant.same_head;
      kept = kept_over (held s) (held s') (held s'') (tree s) (tree s') (tree s'') c.loop-at.invariant.kept kept;
      ids_held = subst (All (held s'')) (sym c.in_ok-push.ensures.items) (All-push (held s'') ids id (held_more (held s') (held s'') (tree s') (tree s'') ids kept c.loop-at.invariant.ids_held) c.in_ok-kid.ensures.held);
      so_far = ap (map (tree s'')) c.in_ok-push.ensures.items
          ∙ kids_more (held s') (held s'') (tree s') (tree s'') ids id ts c.loop-at.at kept c.loop-at.invariant.ids_held c.loop-at.invariant.so_far k (c.in_ok-kid.ensures.stands ∙ c.kid.ensures);
    }

pub lift_node-requires : goal.lift_node-requires
lift_node-requires g t c κs within =
    let k : c.loop-at.at < length (kids_of (node_tree c.args.node)) = omega (arith, c.loop-at-test.true, c.kid_count-count.ensures) in
    let smaller = size-kid (node_tree c.args.node) c.loop-at.at k in
    let e = ap size c.kid.ensures in
    (omega (arith, smaller, e, c.decreases), within)

pub returns-clause-stands : goal.returns-clause-stands
returns-clause-stands g t c =
    let tree = g.S.TermStore.tree c.loop-at.store in
    let so_far = ap (map tree) c.as_slice-2.ensures.value ∙ c.loop-at.invariant.so_far in
    let all : length (kids_of (node_tree c.args.node)) ≤ c.loop-at.at = omega (arith, c.loop-at-test.false, c.kid_count-count.ensures) in
    c.in_ok-id.ensures.stands ∙ same_over (node_tree c.args.node) _ (map tree c.as_slice-2.result.now) c.loop-at.at c.loop-at.invariant.same_head so_far all
