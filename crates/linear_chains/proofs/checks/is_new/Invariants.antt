use Rattle.std.proofs.Common.{map, drop}
use Rattle.linear_chains.specs.Chains.{NotAmong}
use Rattle.linear_chains.specs.View.{vec_items}
use Rattle.linear_chains.proofs.checks.is_new.Given as goal

abbrev pub invariant-loop-other : goal.invariant-loop-other
invariant-loop-other l = NotAmong l.side (map vec_items (drop l.other-index l.sides)) → NotAmong l.side (map vec_items l.sides)
