-- What is made of terms that fit, fits.
use Rattle.acsl_rules.specs.Laws.{Leaves, OperatorsFit, ObjectsFit, ListsFit, TermsFit}
use Rattle.acsl_rules.proofs.Fitting.{unary_fits}
use Rattle.acsl_rules.proofs.FittingTwo.{binary_fits, conditional_fits}
use Rattle.acsl_rules.proofs.FittingLists.{passed_fits, chain_fits}
use Rattle.acsl_rules.proofs.FittingObjects.{indexed_fits, field_fits, elements_fit, behind_fits, cast_fits, labelled_fits, pointed_fits}

operators_fit : (g : Leaves) → OperatorsFit g
operators_fit g = record { of_one = unary_fits g; of_two = binary_fits g; of_three = conditional_fits g }

objects_fit : (g : Leaves) → ObjectsFit g
objects_fit g = record {
  of_index = indexed_fits g;
  of_fields = field_fits g;
  of_range = elements_fit g;
  of_offsets = behind_fits g;
  of_cast = cast_fits g;
  of_state = labelled_fits g;
  of_region = pointed_fits g;
}

lists_fit : (g : Leaves) → ListsFit g
lists_fit g = record { of_argument = passed_fits g; of_terms = chain_fits g }

pub terms_fit : TermsFit
terms_fit g = (operators_fit g, objects_fit g, lists_fit g)
