use Rattle.std.proofs.Common.{◌≡◌, drop}
use Rattle.acsl_guards.specs.Guarding as spec
use Rattle.acsl_guards.specs.Parts.{candidates_in}
use Rattle.acsl_guards.proofs.ranges.first_with.Given as goal

abbrev pub invariant-loop-candidate : goal.invariant-loop-candidate
invariant-loop-candidate l = spec.first_with l.name (candidates_in (drop l.candidate-index l.candidates)) ≡ spec.first_with l.name (candidates_in l.candidates)
