-- What passes and what is refused, of the small function.
use Rattle.std.proofs.Common.{refl}
use Rattle.program_tests.specs.Examples.{ExamplesPass}

pub examples_pass : ExamplesPass
examples_pass = record {
  whole = λ texts. refl;
  set = λ texts. refl;
  parameter = λ texts. refl;
  local = λ texts. refl;
  names = λ texts. refl;
  unseen = λ texts. refl;
  unseen_block = λ texts. refl;
  sets = λ texts. refl;
  sets_unseen = λ texts. refl;
  exit = λ texts. refl;
  no_exit = λ texts. refl;
  too_far = λ texts. refl;
  asserted = λ texts. refl;
  no_claim = λ texts. refl;
  turned = λ texts. refl;
  no_invariant = λ texts. refl;
  no_variant = λ texts. refl;
  behaved = λ texts. refl;
  no_assumption = λ texts. refl;
  no_requirement = λ texts. refl;
  no_promise = λ texts. refl;
  no_measure = λ texts. refl;
  result = λ texts. refl;
  with_operand = λ texts. refl;
  to_block = λ texts. refl;
  to_pointed = λ texts. refl;
}
