use Rattle.std.proofs.Common.{◌≡◌, drop}
use Rattle.std.specs.List.{list_all}
use Rattle.acsl_guards.specs.Chains as spec
use Rattle.acsl_guards.proofs.chains.all_fall.Given as goal

abbrev pub invariant-loop-op : goal.invariant-loop-op
invariant-loop-op l = list_all spec.falls (drop l.op-index l.ops) ≡ list_all spec.falls l.ops
