use Rattle.std.proofs.Common.{◌-◌, ap, arith, min, ◌∙◌, refl}
use Rattle.qed_terms.proofs.Sizes.{size-kid}
use Rattle.qed_terms.specs.Nodes.{kids_of, node_tree}
use Rattle.qed_terms.specs.Tree.{size}
use Rattle.goal_text.proofs.Writing.{kid_put, frame_turn, laid_put}
use Rattle.goal_text.proofs.write.+writing.Goals as goal

pub put_node-returns-in_ok-put_close-in-Laid : goal.put_node-returns-in_ok-put_close-in-Laid
put_node-returns-in_ok-put_close-in-Laid t c =
    laid_put _ _ (node_tree c.args.node) c.kid_count-count.result _ _ _ _ _ c.in-Laid.ensures c.kid_count-count.ensures c.in_ok-put_open-in-Laid.ensures c.in_ok-put_kids-in-Laid.ensures c.in_ok-put_layout-in-Laid.ensures.text
    c.in_ok-put_layout-in-Laid.ensures.held c.in_ok-put_close-in-Laid.ensures

pub put_kids-put_node-requires : goal.put_kids-put_node-requires
put_kids-put_node-requires t c =
    let k = size-kid (node_tree c.args.node) c.loop-at.at (omega (arith, c.loop-at-test.true, c.requires)) in
    let e = ap size c.kid.ensures in
    (omega (arith, k, e, c.decreases), tt)

pub put_kids-loop-at-preserved : goal.put_kids-loop-at-preserved
put_kids-loop-at-preserved t c =
    kid_put (kids_of (node_tree c.args.node)) c.loop-at.at c.args.end c.args.from (node_tree c.kid.result) _ _ _ _ (omega (arith, c.loop-at-test.true)) c.requires c.kid.ensures c.in_ok-put.ensures c.in_ok-put_node.ensures c.loop-at.invariant

pub put_frame-loop-shape-preserved : goal.put_frame-loop-shape-preserved
put_frame-loop-shape-preserved t c =
    frame_turn c.args.shapes.now c.loop-shape.shape-index _ (kids_of (node_tree c.args.node)) c.loop-shape.at c.kid_count-count.result c.min-width.result _ _ _ _ (omega arith) c.kid_count-count.ensures
    (c.min-width.ensures ∙ ap (λ n. min n (c.kid_count-count.result - c.loop-shape.at)) c.shape_width.ensures) refl c.in_ok-put_region.ensures c.loop-shape.invariant
