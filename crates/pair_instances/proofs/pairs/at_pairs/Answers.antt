use Rattle.std.proofs.Common.{map}
use Rattle.qed_terms.proofs.Kept.{kept_over, kept_trees}
use Rattle.drawn_instances.proofs.KidLaws.{kid_held}
use Rattle.pair_instances.specs.PairRows.{pair_row}
use Rattle.pair_instances.proofs.PairLaws.{pairs_more}
use Rattle.pair_instances.proofs.pairs.at_pairs.Goals as goal

pub loop-first-preserved : goal.loop-first-preserved
loop-first-preserved g c =
    let tree = g.S.TermStore.tree in
    let held = g.S.TermStore.held in
    let s = c.args.store.now in
    let s' = c.loop-first.store in
    let s'' = c.at_first.new.store in
    let before = c.loop-first.invariant in
    let done = c.in_ok-at_first.ensures in
    let first = c.first-item.result in
    let seconds = c.args.seconds.now in
    let old = kid_held (held s) c.args.firsts.now c.loop-first.first-index first c.requires.firsts c.loop-first-test.true c.first-item.is in
    record {
      kept = kept_over (held s) (held s') (held s'') (tree s) (tree s') (tree s'') before.kept done.older;
      out_held = done.held;
      so_far =
          pairs_more (tree s) (pair_row c.args.long_bits c.args.row) c.args.firsts.now c.loop-first.first-index first (map (tree s) seconds) (map (tree s) c.args.out.now.items)
          (map (tree s') c.loop-first.out.items) (map (tree s'') c.at_first.new.out.items) (tree s' first) (map (tree s') seconds) c.loop-first-test.true c.first-item.is (before.kept.same_tree first old)
          (kept_trees (held s) (held s') (tree s) (tree s') seconds before.kept c.requires.seconds) before.so_far done.stand;
    }
