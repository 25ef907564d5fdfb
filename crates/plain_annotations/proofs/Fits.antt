-- Annotations over plain integers have closed formulas and terms, which mean them.
use Rattle.std.proofs.Common.{◌≡◌, true, [], sym, ap, ◌∙◌, subst, arith}
use Rattle.std.specs.Prelude.{Option, Some}
use Rattle.std.proofs.lemmas.Bool.{ltb-true}
use Rattle.qed_terms.specs.Tree.{Tree as Term}
use Rattle.acsl_encode.specs.Encode.{as_integer, as_formula, terms_of, no_names}
use Rattle.acsl_encode.specs.WellFormed.{ReadingFits}
use Rattle.acsl_encode.specs.Laws.{IsUnbound}
use Rattle.acsl_encode.proofs.Formulas.{formulas_mean}
use Rattle.program_steps.specs.Leaves.{is_closed}
use Rattle.plain_annotations.specs.Views.{IsInteger, TermsAreClosed}
use Rattle.plain_annotations.specs.Laws.{with_result, AnnotationsFit}
use Rattle.plain_annotations.proofs.Terms.{integer_tree}
use Rattle.plain_annotations.proofs.Integers.{number_there, formula_there}
use Rattle.plain_annotations.proofs.Results.{same_tree}
use Rattle.plain_annotations.proofs.Closed.{closed_tree}
use Rattle.plain_annotations.proofs.Closing.{Given, number_closed, formula_closed}

is_given : (o : Option Term) (t : Term) → Given [] o → o ≡ Some t → is_closed [] t ≡ true
is_given o t g e = subst (Given []) e g

pub annotations_fit : AnnotationsFit
annotations_fit m names p given r ds a over calls plain = record {
  as_formula = record {
    formula = formula.0;
    is = formula.1;
    closed = is_given (as_formula (terms_of r a)) formula.0 (formula_closed [] (terms_of r a) closed) formula.1;
    means = λ env w stands. (formulas_mean m names (with_result given r) ds env w a unbound fits calls stands).formula formula.0 (ap as_formula (sym same) ∙ formula.1);
  };
  as_number = record {
    term = number.0;
    is = number.1;
    closed = is_given (as_integer (terms_of r a)) number.0 (number_closed [] (terms_of r a) closed) number.1;
    means = λ env w stands. (formulas_mean m names (with_result given r) ds env w a unbound fits calls stands).number number.0 (ap as_integer (sym same) ∙ number.1);
  };
}
  where
    is_integer : IsInteger (terms_of r a)
    is_integer = integer_tree p a r no_names 0 0 over.serves (λ x less. absurd (let l = ltb-true x 0 less in omega (arith, l))) plain

    formula : (f : Term) × (as_formula (terms_of r a) ≡ Some f)
    formula = formula_there (terms_of r a) is_integer

    number : (t : Term) × (as_integer (terms_of r a) ≡ Some t)
    number = number_there (terms_of r a) is_integer

    closed : TermsAreClosed [] (terms_of r a)
    closed = closed_tree p a r no_names 0 0 [] over.serves over.closed (λ x. tt) plain

    same : terms_of r a ≡ terms_of (with_result given r) a
    same = same_tree p given a 0 plain r over.result no_names 0 0

    -- ---- what is asked of the reading with the other result

    fits : ReadingFits (with_result given r)
    fits = record {
      here = over.fits.here;
      pre = over.fits.pre;
      post = over.fits.post;
      loop_entry = over.fits.loop_entry;
      result = over.given_fits;
      binders = over.fits.binders;
      called = over.fits.called;
    }

    unbound : IsUnbound names (with_result given r)
    unbound = record {
      here = over.unbound.here;
      pre = over.unbound.pre;
      post = over.unbound.post;
      loop_entry = over.unbound.loop_entry;
      result = over.given_unmarked;
      spelled = over.unbound.spelled;
      binders = over.unbound.binders;
    }
