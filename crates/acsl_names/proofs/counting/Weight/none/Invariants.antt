use Rattle.std.proofs.Common.{◌≡◌}
use Rattle.acsl_names.specs.Counting as spec
use Rattle.acsl_names.proofs.counting.Weight.none.Given as goal

abbrev pub invariant-loop : goal.invariant-loop
invariant-loop l = l.times.items ≡ spec.zeros l.counter
