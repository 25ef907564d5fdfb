use Rattle.std.proofs.Common.{◌≡◌, ◌++◌, drop}
use Rattle.branch_accesses.specs.Ids.{side_ids}
use Rattle.branch_accesses.proofs.asked.put_sides.Given as goal

-- what is there and the sides of the loads that are left make the whole
abbrev pub invariant-loop-load : goal.invariant-loop-load
invariant-loop-load g l = l.out.items ++ side_ids (drop l.load-index l.loads) ≡ l.initial.out.items ++ side_ids l.loads
