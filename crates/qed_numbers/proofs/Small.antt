-- Bit operators on numbers of 127 bits give such numbers.
use Rattle.std.proofs.Common.{ℕ, ◌^◌, ◌<◌, bit_and, bit_or, bit_xor, arith}
use Rattle.std.proofs.lemmas.Nat.{and_le_l, or_lt, xor_lt}
use Rattle.qed_terms.specs.Operators.{without}

pub and_small : (a b : ℕ) → a < 2 ^ 127 → bit_and a b < 2 ^ 127
and_small a b k = omega (arith, k, and_le_l a b)

pub or_small : (a b : ℕ) → a < 2 ^ 127 → b < 2 ^ 127 → bit_or a b < 2 ^ 127
or_small a b k l = or_lt 127 a b k l

pub xor_small : (a b : ℕ) → a < 2 ^ 127 → b < 2 ^ 127 → bit_xor a b < 2 ^ 127
xor_small a b k l = xor_lt 127 a b k l

pub without_small : (a b : ℕ) → a < 2 ^ 127 → without a b < 2 ^ 127
without_small a b k = xor_lt 127 a (bit_and a b) k (and_small a b k)

pub ruleset smalls = (and_small, or_small, xor_small, without_small)
