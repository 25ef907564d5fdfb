-- Quotients, by whether the divisor is -1 as spelled.
use Rattle.std.proofs.Common.{◌≡◌, zero, suc, true, false, ℤ, pos, negsuc, [], ◌∷◌, Option, Some, None, sym}
use Rattle.std.specs.Prelude.{Result}
use Rattle.std.proofs.lemmas.Bool.{false≢true}
use Rattle.wp_base.specs.declared.kinds.Kind.{Kind}
use Rattle.wp_base.specs.declared.memory.NoMemory.{NoMemory}
use Rattle.c_kinds.specs.declared.models.Machdep.{Machdep}
use Rattle.c_kinds.specs.Models.{low}
use Rattle.qed_terms.specs.declared.term.Formula.{Formula}
use Rattle.qed_terms.specs.Tree.{Tree, num, equal, not_of, and_of}
use Rattle.value_terms.specs.Words.{quotient_fits_term}
use Rattle.term_drafts.specs.Drafts.{FormulaIs}
use Rattle.memory_values.specs.OverSlots.{is_minus_one}

pub by_minus_one : (draft : Result Formula NoMemory) (m : Machdep) (k : Kind) (d : Option ℤ) (t u : Tree) → is_minus_one d ≡ true → FormulaIs draft (not_of (equal t (num (low m k))))
    → FormulaIs draft (quotient_fits_term m k d t u)
by_minus_one draft m k None t u e h = absurd (false≢true e)
by_minus_one draft m k (Some (pos n)) t u e h = absurd (false≢true e)
by_minus_one draft m k (Some (negsuc zero)) t u e h = h
by_minus_one draft m k (Some (negsuc (suc n))) t u e h = absurd (false≢true e)

pub by_another : (draft : Result Formula NoMemory) (m : Machdep) (k : Kind) (d : Option ℤ) (t u : Tree) → is_minus_one d ≡ false
    → FormulaIs draft (not_of (and_of (equal t (num (low m k)) ∷ equal u (num (negsuc 0)) ∷ []))) → FormulaIs draft (quotient_fits_term m k d t u)
by_another draft m k None t u e h = h
by_another draft m k (Some (pos n)) t u e h = h
by_another draft m k (Some (negsuc zero)) t u e h = absurd (false≢true (sym e))
by_another draft m k (Some (negsuc (suc n))) t u e h = h
