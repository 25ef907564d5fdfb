use Rattle.std.proofs.Common.{take}
use Rattle.qed_terms.specs.Meaning.{World, Values}
use Rattle.known_bounds.specs.Bounds.{AllHold, AreKept}
use Rattle.known_bounds.proofs.formulas.+telling.Given as goal

-- those so far are told
abbrev pub invariant-are_told-loop-formula : goal.invariant-are_told-loop-formula
invariant-are_told-loop-formula l = (w : World) (env : Values) → AreKept env l.bounds → AllHold w env (take l.formula-index l.formulas)
