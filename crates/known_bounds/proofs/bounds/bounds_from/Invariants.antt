-- What is copied so far is kept.
use Rattle.qed_terms.specs.Meaning.{Values}
use Rattle.known_bounds.specs.Bounds.{AreKept}
use Rattle.known_bounds.proofs.bounds.bounds_from.Given as goal

abbrev pub invariant-loop-at : goal.invariant-loop-at
invariant-loop-at l = (env : Values) → AreKept env l.bounds → AreKept env l.found.items
