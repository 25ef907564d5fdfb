-- The examples hold by computing.
use Rattle.std.proofs.Common.{refl}
use Rattle.annotations_encoded.specs.Examples.{ExamplesHold}

pub examples_hold : ExamplesHold
examples_hold = record {
  variable = λ m. (refl, refl);
  pointed = λ m. (refl, refl);
  element = λ m. (refl, refl);
  no_memory = λ m. (refl, refl);
  no_pointer = λ m. (refl, refl);
  unseen = λ m. (refl, refl);
  address = λ m. (refl, refl);
  no_address = λ m. (refl, refl);
  set_read = λ m. (refl, refl);
  set_address = λ m. (refl, refl);
  set_valid = λ m. (refl, refl);
  not_valid = λ m. (refl, refl);
  object_region = λ m. (refl, refl);
  set_region = λ m. (refl, refl);
  other_size = λ m. (refl, refl);
  variable_region = λ m. (refl, refl);
  choice = λ m. (refl, refl);
  no_choice = λ m. (refl, refl);
}
