use Rattle.std.proofs.Common.{◌≡◌, map, take, All}
use Rattle.qed_terms.specs.Store.{KeepsOlder}
use Rattle.instance_candidates.specs.Ids.{order_of}
use Rattle.instance_candidates.proofs.formulas.orders_by.Given as goal

abbrev pub invariant-loop-meeting : goal.invariant-loop-meeting
invariant-loop-meeting g l =
    let tree = g.S.TermStore.tree in
    let held = g.S.TermStore.held in
    record {
      older : KeepsOlder (held l.initial.store) (held l.store) (tree l.initial.store) (tree l.store);
      held_made : All (held l.store) l.made.items;
      orders : map (tree l.store) l.made.items ≡ map (order_of (tree l.initial.store)) (take l.meeting-index l.meetings);
    }
