-- The examples, by computation.
use Rattle.std.proofs.Common.{refl}
use Rattle.c_runs.specs.Examples.{ChecksInOrder}

pub checks_in_order : ChecksInOrder
checks_in_order = record {
  quotient = refl;
  unsigned_quotient = refl;
  half = refl;
  guarded = refl;
  shifted = refl;
  followed = refl;
  opposite = refl;
  written = refl;
}
