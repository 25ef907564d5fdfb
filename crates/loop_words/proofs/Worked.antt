-- The examples compute to what was worked out by hand.
use Rattle.std.proofs.Common.{refl}
use Rattle.loop_words.specs.Examples.{ExamplesHold}

pub examples_hold : ExamplesHold
examples_hold = record {
  own_set = record { changes = refl; nothing_stays = refl };
  no_set = record { changes = refl; around = refl; stays = refl };
  inside = record { free = refl; by_plain = refl; by_behavior = refl; by_both = refl; in_loop = refl; out_of_loop = refl };
  order = λ m. refl;
}
