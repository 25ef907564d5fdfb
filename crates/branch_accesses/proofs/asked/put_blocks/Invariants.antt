use Rattle.std.proofs.Common.{◌≡◌, ◌++◌, drop}
use Rattle.branch_accesses.specs.Ids.{block_ids}
use Rattle.branch_accesses.proofs.asked.put_blocks.Given as goal

-- what is there and the blocks of the accesses that are left make the whole
abbrev pub invariant-loop-access : goal.invariant-loop-access
invariant-loop-access g l = l.out.items ++ block_ids (drop l.access-index l.accesses) ≡ l.initial.out.items ++ block_ids l.accesses
