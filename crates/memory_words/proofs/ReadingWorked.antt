-- The readings of the example compute to those worked out by hand.
use Rattle.std.proofs.Common.{refl}
use Rattle.memory_words.specs.Places.{slot}
use Rattle.memory_words.specs.ReadingExamples.{WorkedReadings}

pub worked_readings : WorkedReadings
unfolding slot
worked_readings = record {
  file_variable = refl;
  parameter = refl;
  variable = refl;
  flag = refl;
  block = refl;
  unset = refl;
  unscoped = refl;
  array = refl;
  body = refl;
  back = refl;
}
