-- The bits that the program holds, as the integer that they are.
use Rattle.std.specs.Prelude.{ℤ, pos, negsuc, if◌then◌else◌}
use Rattle.qed_numbers.specs.declared.bits.Bits.{Bits}

abbrev pub bits_value : Bits → ℤ
bits_value b = if b.turned then negsuc b.ones else pos b.ones
