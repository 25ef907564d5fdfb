use Rattle.std.proofs.Common.{◌≡◌, ◌++◌, take}
use Rattle.branch_rows.specs.Branch.{rest_places}
use Rattle.branch_rows.proofs.branch.root_places.Given as goal

abbrev pub invariant-loop-pair : goal.invariant-loop-pair
invariant-loop-pair l = l.roots.items ≡ l.literals ++ rest_places (take l.pair-index l.pairs)
