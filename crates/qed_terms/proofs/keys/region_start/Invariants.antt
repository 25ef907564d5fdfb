use Rattle.std.proofs.Common.{◌≡◌, drop, get_or}
use Rattle.qed_terms.specs.Order.{region_starts}
use Rattle.qed_terms.proofs.keys.region_start.Given as goal

-- what is left of the place, in the regions that are left
abbrev pub invariant-loop-shape : goal.invariant-loop-shape
invariant-loop-shape l = get_or (region_starts (drop l.shape-index l.shapes)) l.left 0 ≡ get_or (region_starts l.shapes) l.place 0
