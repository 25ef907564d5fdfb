-- What annotations become, computed.
use Rattle.std.proofs.Common.{refl}
use Rattle.acsl_encode.specs.Binders.{numbered}
use Rattle.acsl_encode.specs.Examples.{ExamplesHold}

pub examples_hold : ExamplesHold
unfolding numbered
examples_hold = record {
  operators = record {
    minus = refl;
    sum = refl;
    greater = refl;
    unequal = refl;
    link = refl;
    chain = refl;
    nested = refl;
    differ = refl;
    choice = refl;
    chosen = refl;
    as_number = refl;
    as_truth = refl;
  };
  casts = record { narrower = refl; wider = refl; bool = refl; integer = refl };
  states = record { old = refl; entry = refl; named = refl; result = refl };
  binders = record { every = refl; some = refl; inner = refl };
  pointers = record { pointed = refl; null = refl; difference = refl; valid = refl; elements = refl; separated = refl; call = refl };
}
