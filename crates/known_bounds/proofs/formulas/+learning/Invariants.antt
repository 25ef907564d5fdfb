use Rattle.std.proofs.Common.{◌≡◌, take}
use Rattle.qed_terms.specs.Meaning.{World, Values}
use Rattle.known_bounds.specs.Bounds.{AllHold, AreKept, Extends}
use Rattle.known_bounds.proofs.formulas.+learning.Given as goal

-- bounds that were learnt behind others, which are kept wherever the formulas hold
abbrev pub invariant-learn_all-loop-formula : goal.invariant-learn_all-loop-formula
invariant-learn_all-loop-formula l = ((w : World) (env : Values) → AreKept env l.fn.bounds.items → AllHold w env l.formulas → AreKept env l.bounds.items) × Extends l.fn.bounds.items l.bounds.items
