use Rattle.std.proofs.Common.{◌≡◌, ℕ, not, ◌&&◌}
use Rattle.program_steps.specs.Temporaries.{Temporaries}
use Rattle.walk_live.specs.Bits.{bits}
use Rattle.walk_live.proofs.sets.difference.Given as goal

abbrev pub invariant-loop-at : goal.invariant-loop-at
invariant-loop-at l = (c : ℕ) (f g : Temporaries) → l.first ≡ bits c f → l.second ≡ bits c g → l.made.items ≡ bits l.at (λ n. f n && not (g n))
