use Rattle.std.proofs.Common.{◌≡◌, drop, map}
use Rattle.qed_terms.specs.Nodes.{room_after}
use Rattle.branches.specs.Branch.{nodes_of}
use Rattle.branches.proofs.sizes.room_after_all.Given as goal

abbrev pub invariant-loop-at : goal.invariant-loop-at
invariant-loop-at g l =
    let ts = map (g.S.TermStore.tree l.store) l.ids in
    room_after l.room (nodes_of ts) ≡ room_after l.left (nodes_of (drop l.at ts))
