use Rattle.std.proofs.Common.{◌≡◌, drop}
use Rattle.acsl_guards.specs.Guarding as spec
use Rattle.acsl_guards.proofs.ranges.is_range.Given as goal

abbrev pub invariant-loop-guard : goal.invariant-loop-guard
invariant-loop-guard l = spec.is_range (drop l.guard-index l.guards) l.number ≡ spec.is_range l.guards l.number
