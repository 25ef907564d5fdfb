use Rattle.std.proofs.Common.{◌≡◌, drop}
use Rattle.stored_normals.specs.Places.{wanted, each_fit}
use Rattle.stored_normals.proofs.places.are_each.Given as goal

-- those that are left tell
abbrev pub invariant-loop-at : goal.invariant-loop-at
invariant-loop-at g l = let tree = g.S.TermStore.tree l.store in each_fit tree (wanted l.place) (drop l.from l.kids) ≡ each_fit tree (wanted l.place) (drop l.at l.kids)
