use Rattle.std.proofs.Common.{◌≡◌, drop}
use Rattle.acsl_names.specs.Counting as spec
use Rattle.acsl_names.proofs.counting.Weight.total.Given as goal

abbrev pub invariant-loop-i : goal.invariant-loop-i
invariant-loop-i l = spec.total_from l.total (drop l.i l.times) ≡ spec.total_from l.self.own l.self.times
