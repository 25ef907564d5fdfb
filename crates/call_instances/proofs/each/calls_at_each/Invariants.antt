use Rattle.std.proofs.Common.{◌≡◌, ◌++◌, All, map, take}
use Rattle.qed_terms.specs.Store.{KeepsOlder}
use Rattle.qed_terms.specs.View.{view_logic}
use Rattle.instance_rows.specs.Calls.{cases_of_call}
use Rattle.instance_rows.specs.Occurrences.{at_each}
use Rattle.call_instances.proofs.each.calls_at_each.Given as goal

-- what the row gives at the nodes so far stands behind what was there
abbrev pub invariant-loop-node : goal.invariant-loop-node
invariant-loop-node g l =
    let tree = g.S.TermStore.tree in
    let held = g.S.TermStore.held in
    record {
      kept : KeepsOlder (held l.initial.store) (held l.store) (tree l.initial.store) (tree l.store);
      out_held : All (held l.store) l.out.items;
      so_far : map (tree l.store) l.out.items ≡ map (tree l.initial.store) l.initial.out.items ++ at_each (cases_of_call (map view_logic l.functions)) (map (tree l.initial.store) (take l.node-index l.nodes));
    }
