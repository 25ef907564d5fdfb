-- What is so of annotations over plain integers: they have closed formulas and terms, which mean them.
use Rattle.std.specs.Prelude.{◌≡◌, true, List, [], Some}
use Rattle.acsl_trees.specs.Tree.{Tree}
use Rattle.acsl_expand.specs.Expansion.{Definition}
use Rattle.c_runs.specs.TruthStates.{World, number_of}
use Rattle.c_runs.specs.Truth.{calls_of, named, holds}
use Rattle.c_runs.specs.Truth as truth
use Rattle.qed_terms.specs.Tree.{Tree as Term}
use Rattle.qed_terms.specs.Meaning as sense
use Rattle.qed_terms.specs.Meaning.{Values}
use Rattle.acsl_encode.specs.Readings.{Terms, Reading}
use Rattle.acsl_encode.specs.Encode.{formula_of, term_of}
use Rattle.acsl_encode.specs.Meaning.{Stands}
use Rattle.acsl_encode.specs.WellFormed.{TermsFit, ReadingFits}
use Rattle.acsl_encode.specs.Binders.{Spelled}
use Rattle.acsl_encode.specs.Calls.{CallsStand}
use Rattle.acsl_encode.specs.Laws.{TermsUnmarked, IsUnbound}
use Rattle.plain_annotations.specs.Plain.{Place, is_plain}
use Rattle.plain_annotations.specs.Views.{Serves, ReadingIsClosed, IsClosed}

-- `\result` is this
abbrev pub with_result : Terms → Reading → Reading
with_result t r = record r { result = t }

-- The formula, and the term, mean the annotation. What stands for `\result` is given beside the reading, where it isn't named.
pub record HasFormula (m : sense.World) (given : Terms) (r : Reading) (ds : List Definition) (a : Tree) : Type 0 where
  pub formula : Term
  pub is : formula_of r a ≡ Some formula
  pub closed : IsClosed formula
  pub means : (env : Values) (w : World) → Stands m (with_result given r) env w → sense.truth m env formula ≡ holds ds w a

pub record HasTerm (m : sense.World) (given : Terms) (r : Reading) (ds : List Definition) (a : Tree) : Type 0 where
  pub term : Term
  pub is : term_of r a ≡ Some term
  pub closed : IsClosed term
  pub means : (env : Values) (w : World) → Stands m (with_result given r) env w
      → sense.value m env term ≡ number_of (truth.value (calls_of ds) (named []) 0 w a)

-- what is asked of a reading
pub record IsOver (names : Spelled) (p : Place) (given : Terms) (r : Reading) : Type 0 where
  pub serves : Serves p r
  pub closed : ReadingIsClosed r
  pub fits : ReadingFits r
  pub unbound : IsUnbound names r
  pub result : p.has_result ≡ true → r.result ≡ given
  pub given_fits : TermsFit given
  pub given_unmarked : TermsUnmarked given

pub record Fits (m : sense.World) (given : Terms) (r : Reading) (ds : List Definition) (a : Tree) : Type 0 where
  pub as_formula : HasFormula m given r ds a
  pub as_number : HasTerm m given r ds a

-- An annotation that passes the test has a formula and a term, under whatever reading serves it.
abbrev pub AnnotationsFit : Type 0
AnnotationsFit =
    (m : sense.World) (names : Spelled) (p : Place) (given : Terms) (r : Reading) (ds : List Definition) (a : Tree)
    → IsOver names p given r → CallsStand m.apps (calls_of ds) r.common r.called → is_plain p 0 a ≡ true → Fits m given r ds a
