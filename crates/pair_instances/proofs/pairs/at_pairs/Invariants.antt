use Rattle.std.proofs.Common.{◌≡◌, ◌++◌, All, map, take}
use Rattle.qed_terms.specs.Store.{KeepsOlder}
use Rattle.instance_rows.specs.Occurrences.{at_pairs}
use Rattle.pair_instances.specs.PairRows.{pair_row}
use Rattle.pair_instances.proofs.pairs.at_pairs.Given as goal

-- what the row gives at the first nodes so far stands behind what was there
abbrev pub invariant-loop-first : goal.invariant-loop-first
invariant-loop-first g l =
    let tree = g.S.TermStore.tree in
    let held = g.S.TermStore.held in
    record {
      kept : KeepsOlder (held l.initial.store) (held l.store) (tree l.initial.store) (tree l.store);
      out_held : All (held l.store) l.out.items;
      so_far : map (tree l.store) l.out.items ≡ map (tree l.initial.store) l.initial.out.items ++ at_pairs (pair_row l.long_bits l.row) (map (tree l.initial.store) (take l.first-index l.firsts)) (map (tree l.initial.store) l.seconds);
    }
