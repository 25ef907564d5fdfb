use Rattle.std.proofs.Common.{◌≡◌, take}
use Rattle.same_places.specs.Passing.{class_parts}
use Rattle.same_places.proofs.keys.class_parts.Given as goal

abbrev pub invariant-loop-part : goal.invariant-loop-part
invariant-loop-part l = l.made.items ≡ class_parts l.classes (take l.part-index l.parts)
