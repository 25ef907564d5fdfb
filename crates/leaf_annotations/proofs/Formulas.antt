-- Formulas and terms of whole annotations.
use Rattle.std.proofs.Common.{◌≡◌, [], sym, ap, ◌∙◌, subst}
use Rattle.std.specs.Prelude.{Option, Some}
use Rattle.c_runs.specs.TruthStates.{Value, number_of}
use Rattle.c_runs.specs.Truth.{calls_of, named, value}
use Rattle.acsl_encode.specs.Readings.{Reading}
use Rattle.acsl_encode.specs.Encode.{no_names, terms_of, as_integer, as_formula, as_pointer}
use Rattle.acsl_encode.specs.Meaning.{Holds, Means}
use Rattle.acsl_encode.specs.Binders.{Spelled, Differ}
use Rattle.acsl_encode.proofs.Operands.{IsNumber, IsTruth, IsPointer, as_number, as_truth, as_address}
use Rattle.acsl_encode.proofs.Naming.{binders_differ}
use Rattle.leaf_annotations.specs.Laws.{IsOverLeaves, TermsMean, SortedFormulasMean, FormulasAreClosed}
use Rattle.leaf_annotations.proofs.ClosedHeads.{terms_are_closed, formula_is_closed, number_is_closed}
use Rattle.leaf_annotations.proofs.Unbound.{still_stands}
use Rattle.leaf_annotations.proofs.Around.{Around}
use Rattle.leaf_annotations.proofs.Annotated.{same_meaning}

there : {X : Type 0} (p : X → Type 0) (o : Option X) (x : X) → Holds p o → o ≡ Some x → p x
there p o x h e = subst (Holds p) e h

names_differ : (names : Spelled) (r : Reading) → IsOverLeaves names r → Differ r.common.binder
names_differ names r u i j e = binders_differ names u.spelled i j (sym (u.binders i) ∙ e ∙ u.binders j)

pub terms_mean : TermsMean
terms_mean q names r ds env w t u calls stands = same_meaning q (calls_of ds) t start
  where
    start : Around q (calls_of ds)
    start = record {
      r = r;
      w = w;
      env = env;
      ns = no_names;
      values = named [];
      i = 0;
      d = 0;
      differ = names_differ names r u;
      calls = calls;
      good = u.sorted;
      names_sorted = λ x. tt;
      stands = still_stands q r env w u.closed stands;
      fits = λ env' l x. tt;
    }

pub formulas_mean : SortedFormulasMean
formulas_mean q names r ds env w t u calls stands =
    record {
      formula = λ f e. sym (there (IsTruth q r.common env v) (as_formula (terms_of r t)) f (as_truth q r.common env (terms_of r t) v means) e);
      number = λ n e. sym (ap number_of (there (IsNumber q r.common env v) (as_integer (terms_of r t)) n (as_number q r.common env (terms_of r t) v means) e));
      region = λ cells b low high e. subst (λ x. Means q r.common env x v) e means;
      pointer = λ p e. (there (IsPointer q r.common env v) (as_pointer (terms_of r t)) p (as_address q r.common env (terms_of r t) v means) e).0;
    }
  where
    v : Value
    v = value (calls_of ds) (named []) 0 w t

    means : Means q r.common env (terms_of r t) v
    means = terms_mean q names r ds env w t u calls stands

pub formulas_are_closed : FormulasAreClosed
formulas_are_closed = record { formulas = formula_is_closed; numbers = number_is_closed; terms = terms_are_closed }
