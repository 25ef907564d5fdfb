use Rattle.std.proofs.Common.{◌≡◌, drop}
use Rattle.loop_sets.specs.Scopes as spec
use Rattle.loop_sets.proofs.regions.is_among.Given as goal

abbrev pub invariant-loop-name : goal.invariant-loop-name
invariant-loop-name l = spec.is_among (drop l.name-index l.names) l.variable ≡ spec.is_among l.names l.variable
