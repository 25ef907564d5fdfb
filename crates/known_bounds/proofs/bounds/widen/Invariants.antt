-- The bounds grow, and are kept where either of both lists is.
use Rattle.std.proofs.Common.{◌⊎◌}
use Rattle.qed_terms.specs.Meaning.{Values}
use Rattle.known_bounds.specs.Bounds.{AreKept, Extends}
use Rattle.known_bounds.proofs.bounds.widen.Given as goal

abbrev pub invariant-loop-at : goal.invariant-loop-at
invariant-loop-at l = ((env : Values) → AreKept env l.fn.bounds.items → AreKept env l.first ⊎ AreKept env l.second → AreKept env l.bounds.items) × Extends l.fn.bounds.items l.bounds.items
