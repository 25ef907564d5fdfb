use Rattle.std.proofs.Common.{◌≡◌, ◌≤◌, ◌++◌, List, length, drop}
use Rattle.qed_terms.specs.Tree.{Tree}
use Rattle.pair_instances.proofs.RegionLaws.{done_in, rest_in}
use Rattle.pair_instances.proofs.regions.put_regions.Given as goal

-- what is there and the regions that are left make the whole
abbrev pub invariant-loop-shape : goal.invariant-loop-shape
invariant-loop-shape l = record {
  within : l.at ≤ l.count;
  rest : (us : List Tree) → length us ≡ l.count → done_in us l.parts ++ rest_in us (drop l.shape-index l.shapes) l.at ≡ done_in us l.initial.parts ++ rest_in us l.shapes 4;
}
