use Rattle.std.proofs.Common.{◌≡◌}
use Rattle.program_steps.specs.Temporaries.{no_temporaries}
use Rattle.walk_live.specs.Bits.{bits}
use Rattle.function_goals.proofs.bodies.none_of.Given as goal

abbrev pub invariant-loop-temporary : goal.invariant-loop-temporary
invariant-loop-temporary l = l.none.items ≡ bits l._temporary no_temporaries
