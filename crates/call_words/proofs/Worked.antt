-- The worked examples, by computation.
use Rattle.std.proofs.Common.{refl}
use Rattle.call_words.specs.Examples.{ExamplesHold}

pub examples_hold : ExamplesHold
examples_hold type = record {
  asked = record { requires = refl; decreases = refl; in_no_cluster = refl };
  included = record {
    free = refl;
    nothing = refl;
    named = refl;
    not_named = refl;
    no_clause = refl;
    for_behavior = refl;
    for_both = refl;
    by_behavior = refl;
    by_either = refl;
    in_loop = refl;
    out_of_loop = refl;
  };
  behind = record { one_changes = refl; all_change = refl; stays = refl; promises = refl };
  order = λ m. refl;
}
