use Rattle.std.proofs.Common.{◌≡◌, ◌++◌, drop}
use Rattle.typed_copies.proofs.values.+copies.Given as goal

-- the copies so far and those that are left are all
abbrev pub invariant-copy_values-loop-value : goal.invariant-copy_values-loop-value
invariant-copy_values-loop-value l = l.copies ++ drop l.value-index l.values ≡ l.values
