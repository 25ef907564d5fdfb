-- Formulas of annotations over terms that are of their sorts: they mean the annotations, and are closed where the terms of the reading are.
use Rattle.std.specs.Prelude.{◌≡◌, ℕ, List, [], Some}
use Rattle.acsl_trees.specs.Tree.{Tree}
use Rattle.acsl_expand.specs.Expansion.{Definition}
use Rattle.c_runs.specs.TruthStates.{World}
use Rattle.c_runs.specs.Truth.{calls_of, named, value}
use Rattle.qed_terms.specs.Tree.{Tree as Term}
use Rattle.qed_terms.specs.Meaning.{Values, World as Logic}
use Rattle.acsl_encode.specs.Readings.{Reading}
use Rattle.acsl_encode.specs.Encode.{terms_of, term_of, formula_of}
use Rattle.acsl_encode.specs.Meaning.{Means, Stands}
use Rattle.acsl_encode.specs.Calls.{CallsStand}
use Rattle.acsl_encode.specs.Binders.{Spelled, numbered, AllLack}
use Rattle.acsl_encode.specs.Laws.{MeansTheSame}
use Rattle.leaf_annotations.specs.Closed.{IsClosed, TermsClosed, ReadingClosed}
use Rattle.leaf_annotations.specs.Sorted.{ReadingSorted}

-- the terms of the reading are closed and of their sorts, and the binders of the clause have names of their own
pub record IsOverLeaves (names : Spelled) (r : Reading) : Type 0 where
  pub closed : ReadingClosed r
  pub sorted : ReadingSorted r
  pub spelled : AllLack names
  pub binders : (n : ℕ) → r.common.binder n ≡ numbered names n

-- what terms of annotations mean, where the reading stands for the states and logic functions have the values of their definitions
abbrev pub TermsMean : Type 0
TermsMean =
    (q : Logic) (names : Spelled) (r : Reading) (ds : List Definition) (env : Values) (w : World) (t : Tree)
    → IsOverLeaves names r → CallsStand q.apps (calls_of ds) r.common r.called → Stands q r env w
    → Means q r.common env (terms_of r t) (value (calls_of ds) (named []) 0 w t)

-- so formulas are true exactly where their annotations hold
abbrev pub SortedFormulasMean : Type 0
SortedFormulasMean =
    (q : Logic) (names : Spelled) (r : Reading) (ds : List Definition) (env : Values) (w : World) (t : Tree)
    → IsOverLeaves names r → CallsStand q.apps (calls_of ds) r.common r.called → Stands q r env w → MeansTheSame q r ds env w t

-- ---- closed

pub record FormulasAreClosed : Type 0 where
  pub formulas : (r : Reading) (t : Tree) (f : Term) → ReadingClosed r → formula_of r t ≡ Some f → IsClosed [] f
  pub numbers : (r : Reading) (t : Tree) (u : Term) → ReadingClosed r → term_of r t ≡ Some u → IsClosed [] u
  pub terms : (r : Reading) (t : Tree) → ReadingClosed r → TermsClosed [] (terms_of r t)
