-- The examples hold by computing.
use Rattle.std.proofs.Common.{refl}
use Rattle.value_terms.specs.Terms.{op_term}
use Rattle.value_terms.specs.Words.{op_items}
use Rattle.value_terms.specs.Examples.{Texts}

pub texts : Texts
unfolding op_term op_items
texts = record {
  sum = refl;
  sum_asks = refl;
  wrapped = refl;
  wrapped_asks = refl;
  quotient_asks = refl;
  by_minus_one = refl;
  shifted = refl;
  shift_asks = refl;
  complement_knows = refl;
  compared = refl;
  turned = refl;
  nonzero = refl;
  not_null = refl;
  narrowed = refl;
  widened = refl;
  as_truth = refl;
  unset_asks = refl;
  followed = refl;
  followed_asks = refl;
  field = refl;
  element = refl;
  element_asks = refl;
  moved = refl;
  moved_asks = refl;
  same = refl;
  apart = refl;
  apart_asks = refl;
}
