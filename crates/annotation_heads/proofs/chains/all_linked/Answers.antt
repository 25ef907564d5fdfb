use Rattle.std.proofs.Common.{◌<◌, length, map, sym, ap, ◌∙◌, arith}
use Rattle.std.specs.Prelude.{Some}
use Rattle.std.specs.Option.{option_map}
use Rattle.acsl_trees.specs.declared.tree.Tree.{out-Tree}
use Rattle.acsl_trees.specs.Tree.{trees_of, view_trees}
use Rattle.c_runs.specs.Truth.{heads_of}
use Rattle.acsl_encode.specs.Encode.{put}
use Rattle.qed_terms.specs.View.{formula_tree}
use Rattle.annotation_heads.specs.Chained.{link_of}
use Rattle.annotation_heads.specs.View.{view_terms}
use Rattle.annotation_heads.proofs.Chained_so.{links_from, chain_start, chain_turn}
use Rattle.annotation_heads.proofs.chains.all_linked.Goals as goal

pub loop-at-init : goal.loop-at-init
loop-at-init c =
    let from = links_from (heads_of (trees_of (view_trees c.args.links.now))) (map view_terms c.args.kids.now) 1 in
    record {
      some = omega arith;
      so_far = ap (λ fs. put (Some (map formula_tree fs)) from) c.new-parts.ensures ∙ chain_start c.args.links.now c.args.kids.now;
    }

pub loop-at-preserved : goal.loop-at-preserved
loop-at-preserved c =
    let lt : c.loop-at.at < length c.args.links.now = omega (arith, c.loop-at-test.true, c.min-count.ensures) in
    let lu : c.loop-at.at < length c.args.kids.now = omega (arith, c.loop-at-test.true, c.min-count.ensures) in
    let link = c.link_of-link.ensures ∙ ap (λ u. link_of (out-Tree u).head) (sym c.index-links-at.is) in
    let made = ap (option_map formula_tree) (sym c.in-Some.is) ∙ c.in_ok-part.ensures in
    record {
      some = omega (arith, c.loop-at.invariant.some);
      so_far = chain_turn c.args.links.now c.args.kids.now c.loop-at.parts _ c.loop-at.at c.index-links-at.result c.link_of-link.result c.index-kids-at.result
          c.index-kids-at-in-loop-at.result c.in-Some.part _ c.loop-at.invariant.some lt lu c.index-links-at.is link c.index-kids-at.is
          c.index-kids-at-in-loop-at.is made c.in_ok-push.ensures.ok c.loop-at.invariant.so_far;
    }
