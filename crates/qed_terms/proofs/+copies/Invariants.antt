use Rattle.std.proofs.Common.{◌≡◌, take}
use Rattle.qed_terms.proofs.+copies.Given as goal

-- the copies so far are the terms so far
abbrev pub invariant-copies::copy_terms-loop-term : goal.invariant-copies::copy_terms-loop-term
invariant-copies::copy_terms-loop-term l = l.copies.items ≡ take l.term-index l.terms

abbrev pub invariant-copies::copy_formulas-loop-formula : goal.invariant-copies::copy_formulas-loop-formula
invariant-copies::copy_formulas-loop-formula l = l.copies.items ≡ take l.formula-index l.formulas
