-- Typed claims and measures have closed formulas and terms, which mean them.
use Rattle.std.proofs.Common.{◌≡◌, true, Some, sym, subst}
use Rattle.acsl_trees.specs.Tree as acsl
use Rattle.qed_terms.specs.Tree.{Tree as Term}
use Rattle.qed_terms.specs.Meaning as sense
use Rattle.c_runs.specs.Program.{Facts}
use Rattle.acsl_encode.specs.Readings.{Reading}
use Rattle.acsl_encode.specs.Encode.{formula_of, term_of}
use Rattle.acsl_well_typed.specs.WellTyped.{an_integer}
use Rattle.acsl_well_typed.specs.Definitions.{known_with}
use Rattle.annotations_encoded.specs.Sights.{Sights}
use Rattle.annotations_encoded.specs.Serving.{serves}
use Rattle.annotations_encoded.proofs.Annotations.{annotations_are_encoded}
use Rattle.memory_words.specs.Leaves.{leaves_of}
use Rattle.memory_words.specs.Readings.{Texts}
use Rattle.memory_words.specs.Seen.{ClaimFits, MeasureFits}
use Rattle.leaf_annotations.proofs.Formulas.{formulas_mean}
use Rattle.leaf_annotations.proofs.ClosedHeads.{formula_is_closed, number_is_closed}
use Rattle.typed_annotations.specs.Claims.{Reads}
use Rattle.typed_annotations.specs.Laws.{AnnotationsFit}

module _ (m : sense.World) (p : Facts) (texts : Texts) (g : Sights) (r : acsl.Tree → Reading) (a : acsl.Tree) (reads : Reads m p texts g r a) where
  claim_of : (f : Term) × (formula_of (r a) a ≡ Some f) → ClaimFits m p r a
  claim_of h = record {
    formula = h.0;
    is = h.1;
    closed = formula_is_closed (r a) a h.0 reads.over.closed h.1;
    means = λ w sts stands. (formulas_mean m (texts.binders a) (r a) p.definitions (leaves_of sts) w a reads.over reads.calls stands).formula h.0 h.1;
  }

  measure_of : (u : Term) × (term_of (r a) a ≡ Some u) → MeasureFits m p r a
  measure_of h = record {
    term = h.0;
    is = h.1;
    closed = number_is_closed (r a) a h.0 reads.over.closed h.1;
    means = λ w sts stands. (formulas_mean m (texts.binders a) (r a) p.definitions (leaves_of sts) w a reads.over reads.calls stands).number h.0 h.1;
  }

pub annotations_fit : AnnotationsFit
annotations_fit m p texts ds result g r a reads claim =
    let e = annotations_are_encoded ds result (r a) a an_integer claim.typed
    (subst (λ g. serves (known_with true ds result) g a ≡ true) (sym reads.sights) claim.serves) in
    (claim_of m p texts g r a reads e.0, measure_of m p texts g r a reads e.1)
