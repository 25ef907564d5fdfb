use Rattle.std.proofs.Common.{◌≡◌, drop}
use Rattle.stored_normals.specs.Places.{placed_fit}
use Rattle.stored_normals.proofs.places.are_placed.Given as goal

-- those that are left tell
abbrev pub invariant-loop-at : goal.invariant-loop-at
invariant-loop-at g l = let tree = g.S.TermStore.tree l.store in placed_fit tree l.places l.kids ≡ placed_fit tree (drop l.at l.places) (drop l.at l.kids)
