use Rattle.std.proofs.Common.{◌≡◌, ◌++◌, ◌-◌, suc}
use Rattle.slot_names.specs.Bases.{temporary_names}
use Rattle.slot_names.proofs.bases.push_temporaries.Given as goal

abbrev pub invariant-loop-number : goal.invariant-loop-number
invariant-loop-number l = l.bases.items ++ temporary_names (suc l.number) (l.count - l.number) ≡ l.initial.bases.items ++ temporary_names 1 l.count
