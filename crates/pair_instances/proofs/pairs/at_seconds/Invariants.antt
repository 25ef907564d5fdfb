use Rattle.std.proofs.Common.{◌≡◌, ◌++◌, All, map, take}
use Rattle.qed_terms.specs.Store.{KeepsOlder}
use Rattle.instance_rows.specs.Occurrences.{at_each}
use Rattle.pair_instances.specs.PairRows.{pair_row, row_after}
use Rattle.pair_instances.proofs.pairs.at_seconds.Given as goal

-- what the row gives with the second nodes so far stands behind what was there
abbrev pub invariant-loop-second : goal.invariant-loop-second
invariant-loop-second g l =
    let tree = g.S.TermStore.tree in
    let held = g.S.TermStore.held in
    record {
      kept : KeepsOlder (held l.initial.store) (held l.store) (tree l.initial.store) (tree l.store);
      out_held : All (held l.store) l.out.items;
      so_far : map (tree l.store) l.out.items ≡ map (tree l.initial.store) l.initial.out.items ++ at_each (row_after (pair_row l.long_bits l.row) (tree l.initial.store l.first)) (map (tree l.initial.store) (take l.second-index l.seconds));
    }
