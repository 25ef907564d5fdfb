-- Runs of small programs on several kinds, by computing them.
use Rattle.std.proofs.Common.{refl}
use Rattle.test_runs.specs.Kinds.{Wraps, Shifts, Bits, Turns, Converts, Updates, OnKinds}
use Rattle.c_runs.specs.Run.{levels}
use Rattle.c_runs.specs.Values.{applied}
use Rattle.c_runs.specs.Effects.{write}
use Rattle.wp_base.specs.Blocks.{block_at}

wraps : Wraps
unfolding levels applied write block_at
wraps = record { sum = refl; difference = refl; product = refl; lost_bit = refl; last_bit = refl; zero = refl; below = refl; least = refl; longer = refl; longest = refl }

shifts : Shifts
unfolding levels applied write block_at
shifts = record { sign_bit = refl; highest = refl; nothing = refl; backwards = refl; right_backwards = refl; far = refl; wide = refl }

bits : Bits
unfolding levels applied write block_at
bits = record { and_negative = refl; xor_negative = refl; or_negative = refl; unsigned = refl }

turns : Turns
unfolding levels applied write block_at
turns = record { negative = refl; no_opposite = refl; unsigned = refl; bits = refl; unsigned_bits = refl }

converts : Converts
unfolding levels applied write block_at
converts = record {
  true_ = refl;
  negative_true = refl;
  false_ = refl;
  char = refl;
  unsigned_char = refl;
  short = refl;
  unsigned_short = refl;
  int_ = refl;
  unsigned_int = refl;
  unsigned_test = refl;
  signed_test = refl;
}

updates : Updates
unfolding levels applied write block_at
updates = record {
  past = refl;
  under = refl;
  signed_past = refl;
  stays_true = refl;
  below_false = refl;
  int_past = refl;
  squared = refl;
  shifted = refl;
  halved = refl;
  as_unsigned = refl;
  old = refl;
  new_ = refl;
}

pub on_kinds : OnKinds
on_kinds = record { wraps = wraps; shifts = shifts; bits = bits; turns = turns; converts = converts; updates = updates }
