use Rattle.std.proofs.Common.{◌≡◌, length, map}
use Rattle.acsl_trees.specs.Tree.{view_trees}
use Rattle.acsl_places.specs.Places as spec
use Rattle.acsl_places.proofs.Turns.{onto}
use Rattle.acsl_places.proofs.aims.region_trees.Given as goal

-- the regions so far, and those that are to come
abbrev pub invariant-loop-aim : goal.invariant-loop-aim
invariant-loop-aim l = record {
  count : l.aim-iterator.rest.len ≡ length l.aim-iterator.rest.items;
  so_far : onto (view_trees l.trees) (spec.region_trees l.line (map spec.view_aim l.aim-iterator.rest.items)) ≡ spec.region_trees l.line (map spec.view_aim l.fn.aims);
}
