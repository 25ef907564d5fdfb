-- Terms of arguments may stand for parameters (ACSL 2.3.1): a closed term has no free name with a mark, and one for an integer isn't taken for a memory.
use Rattle.std.specs.Prelude.{◌≡◌, ℕ, true, List}
use Rattle.typed_prog.specs.Tree as t
use Rattle.qed_terms.specs.WellFormed.{fits, int, argument}
use Rattle.c_runs.specs.Program.{Variable, Facts}
use Rattle.value_terms.specs.Readings.{Reading, Term, number_term, term_at}
use Rattle.value_terms.specs.Terms.{terms_of}
use Rattle.plain_annotations.specs.Views.{IsClosed}
use Rattle.plain_annotations.specs.Callees.{IsOpen}

-- the number of it may stand among the arguments of a logic function
abbrev pub MayBeGiven : Term → Type 0
MayBeGiven a = fits argument (number_term a) ≡ true

pub record LeavesMayBeGiven (r : Reading) : Type 0 where
  pub locals : (x : ℕ) → MayBeGiven (r.locals x)
  pub globals : (x : ℕ) → MayBeGiven (r.globals x)
  pub temporaries : (n : ℕ) → MayBeGiven (r.temporaries n)

-- Operands whose terms are well formed and closed.
abbrev pub OperandsAreOpen : Type 0
OperandsAreOpen =
    (p : Facts) (xs : List Variable) (r : Reading) → LeavesMayBeGiven r → (es : t.Values) (i : ℕ)
    → fits int (number_term (term_at (terms_of p xs r es) i)) ≡ true → IsClosed (number_term (term_at (terms_of p xs r es) i)) → IsOpen (number_term (term_at (terms_of p xs r es) i))
