use Rattle.std.proofs.Common.{◌++◌, map, ap, ◌∙◌}
use Rattle.qed_terms.proofs.Kept.{kept_over}
use Rattle.drawn_instances.proofs.KidLaws.{kid_held}
use Rattle.drawn_instances.specs.Drawn.{row_at}
use Rattle.node_instances.proofs.EachLaws.{each_more}
use Rattle.pair_instances.specs.PairRows.{pair_row, row_after}
use Rattle.pair_instances.proofs.PairLaws.{at_second}
use Rattle.pair_instances.proofs.pairs.at_seconds.Goals as goal

pub loop-second-preserved : goal.loop-second-preserved
loop-second-preserved g c =
    let tree = g.S.TermStore.tree in
    let held = g.S.TermStore.held in
    let s = c.args.store.now in
    let s' = c.loop-second.store in
    let s'' = c.at_two.new.store in
    let before = c.loop-second.invariant in
    let done = c.in_ok-at_two.ensures in
    let first = c.args.first in
    let second = c.second-item.result in
    let row = pair_row c.args.long_bits c.args.row in
    let old = kid_held (held s) c.args.seconds.now c.loop-second.second-index second c.requires.seconds c.loop-second-test.true c.second-item.is in
    let there = map (tree s') c.loop-second.out.items in
    record {
      kept = kept_over (held s) (held s') (held s'') (tree s) (tree s') (tree s'') before.kept done.older;
      out_held = done.held;
      so_far =
          each_more (tree s) (row_after row (tree s first)) c.args.seconds.now c.loop-second.second-index second (map (tree s) c.args.out.now.items) there
          (map (tree s'') c.at_two.new.out.items) (tree s' second) c.loop-second-test.true c.second-item.is (before.kept.same_tree second old) before.so_far
          (done.stand ∙ ap (λ fs. there ++ fs) (at_second row (tree s' first) (tree s' second) ∙ ap (λ t. row_at (row_after row t) (tree s' second)) (before.kept.same_tree first c.requires.first)));
    }
