use Rattle.std.proofs.Common.{◌≡◌}
use Rattle.program_steps.specs.Temporaries.{no_temporaries}
use Rattle.walk_live.specs.Bits.{bits}
use Rattle.walk_live.proofs.sets.empty_set.Given as goal

abbrev pub invariant-loop-bit : goal.invariant-loop-bit
invariant-loop-bit l = l.none.items ≡ bits l._bit-index no_temporaries
