use Rattle.std.proofs.Common.{◌≡◌, ◌+◌, ◌*◌, ◌≤◌, drop}
use Rattle.stored_normals.specs.Places.{region_count}
use Rattle.stored_normals.proofs.places.region_count.Given as goal

-- what was counted, and what is left
abbrev pub invariant-loop-shape : goal.invariant-loop-shape
invariant-loop-shape l = record {
  counted : l.count + region_count (drop l.shape-index l.shapes) ≡ region_count l.shapes;
  within : l.count ≤ 3 * l.shape-index;
}
