use Rattle.std.proofs.Common.{take}
use Rattle.same_places.specs.Members.{IsRenamed}
use Rattle.same_places.proofs.joins.rename.Given as goal

abbrev pub invariant-loop-place : goal.invariant-loop-place
invariant-loop-place l = IsRenamed (take l.place-index l.places) l.to l.initial.class_of.items l.class_of.items
