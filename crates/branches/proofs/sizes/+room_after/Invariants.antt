use Rattle.std.proofs.Common.{◌≡◌, ◌<◌, drop, map}
use Rattle.qed_terms.specs.Nodes.{room_after}
use Rattle.qed_terms.specs.Tree.{size}
use Rattle.branches.specs.Branch.{nodes_of}
use Rattle.branches.proofs.sizes.+room_after.Given as goal

abbrev pub decreases-room_after : goal.decreases-room_after
decreases-room_after g l = l.room

-- what is left serves the kids to come
abbrev pub invariant-loop-at : goal.invariant-loop-at
invariant-loop-at g l = record {
  less : l.left < l.room;
  rest : room_after l.room (size (g.S.TermStore.tree l.store l.fn.id)) ≡ room_after l.left (nodes_of (drop l.at (map (g.S.TermStore.tree l.store) l.kids)));
}
