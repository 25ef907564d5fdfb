-- The bit operators of a kind, which are on its bits alone, beside those on two's complement integers without end.
use Rattle.std.proofs.Common.{◌≡◌, ℕ, zero, suc, ◌-◌, ◌/◌, ◌^◌, ◌<◌, Bool, true, false, ℤ, pos, negsuc, bit_and, bit_or, bit_xor, refl, sym, ap, ◌∙◌, arith}
use Rattle.std.specs.Int.{bit_at}
use Rattle.std.proofs.lemmas.Nat.{and_le_l, or_lt, xor_lt}
use Rattle.std.proofs.lemmas.Nat.Bits.{bit_at_lowest, bit_at-suc, bit_at_and, bit_at_or, bit_at_xor, same_from_bits_below}
use Rattle.std.proofs.Math.Nat.{mod-eq_of_lt, pow-suc}
use Rattle.wp_base.specs.Kinds.{floor_mod}
use Rattle.c_kinds.proofs.Converting.{power_some}
use Rattle.qed_terms.specs.Operators.{without, both_bits, either_bit, one_bit}

-- ---- numbers of n bits, and those whose bits are turned over

turned : (n a : ℕ) → ℕ
turned n a = 2 ^ n - suc a

turned_bit : (n a i : ℕ) → a < 2 ^ n → i < n → bit_at (turned n a) i ≡ 1 - bit_at a i
unfolding turned
turned_bit zero a i fits within = absurd (omega arith)
turned_bit (suc n) a zero fits within = omega (arith, bit_at_lowest (2 ^ suc n - suc a), bit_at_lowest a, pow-suc 2 n)
turned_bit (suc n) a (suc i) fits within =
    let half : (2 ^ suc n - suc a) / 2 ≡ 2 ^ n - suc (a / 2) = omega (arith, pow-suc 2 n) in
    bit_at-suc _ i ∙ ap (λ x. bit_at x i) half ∙ turned_bit n (a / 2) i (omega (arith, pow-suc 2 n)) (omega arith) ∙ ap (λ d. 1 - d) (sym (bit_at-suc a i))

bit_small : (a i : ℕ) → bit_at a i < 2
bit_small a i = omega arith

module _ (n a b : ℕ) (p : a < 2 ^ n) (q : b < 2 ^ n) where
  below_turned : (c : ℕ) → turned n c < 2 ^ n
  unfolding turned
  below_turned c = omega (arith, power_some n)

  and_below : bit_and a b < 2 ^ n
  and_below = omega (arith, p, and_le_l a b)

  without_below : without a b < 2 ^ n
  without_below = xor_lt n a (bit_and a b) p and_below

  turned_and : bit_and (turned n a) b ≡ without b a
  turned_and = same_from_bits_below n _ _ (omega (arith, and_le_l (turned n a) b, below_turned a))
      (xor_lt n b (bit_and b a) q (omega (arith, q, and_le_l b a))) (λ i l.
      omega (arith, bit_at_and (turned n a) b i, turned_bit n a i p l, bit_at_xor b (bit_and b a) i, bit_at_and b a i, bit_small a i, bit_small b i))

  and_turned : bit_and a (turned n b) ≡ without a b
  and_turned = same_from_bits_below n _ _ (omega (arith, p, and_le_l a (turned n b))) without_below (λ i l.
      omega (arith, bit_at_and a (turned n b) i, turned_bit n b i q l, bit_at_xor a (bit_and a b) i, bit_at_and a b i, bit_small a i, bit_small b i))

  both_turned : bit_and (turned n a) (turned n b) ≡ turned n (bit_or a b)
  both_turned = same_from_bits_below n _ _ (omega (arith, and_le_l (turned n a) (turned n b), below_turned a)) (below_turned (bit_or a b)) (λ i l.
      omega (
        arith,
        bit_at_and (turned n a) (turned n b) i,
        turned_bit n a i p l,
        turned_bit n b i q l,
        turned_bit n (bit_or a b) i (or_lt n a b p q) l,
        bit_at_or a b i,
        bit_small a i,
        bit_small b i,
      ))

  turned_or : bit_or (turned n a) b ≡ turned n (without a b)
  turned_or = same_from_bits_below n _ _ (or_lt n (turned n a) b (below_turned a) q) (below_turned (without a b)) (λ i l.
      omega (
        arith,
        bit_at_or (turned n a) b i,
        turned_bit n a i p l,
        turned_bit n (without a b) i without_below l,
        bit_at_xor a (bit_and a b) i,
        bit_at_and a b i,
        bit_small a i,
        bit_small b i,
      ))

  or_turned : bit_or a (turned n b) ≡ turned n (without b a)
  or_turned = same_from_bits_below n _ _ (or_lt n a (turned n b) p (below_turned b)) (below_turned (without b a)) (λ i l.
      omega (
        arith,
        bit_at_or a (turned n b) i,
        turned_bit n b i q l,
        turned_bit n (without b a) i (xor_lt n b (bit_and b a) q (omega (arith, q, and_le_l b a))) l,
        bit_at_xor b (bit_and b a) i,
        bit_at_and b a i,
        bit_small a i,
        bit_small b i,
      ))

  either_turned : bit_or (turned n a) (turned n b) ≡ turned n (bit_and a b)
  either_turned = same_from_bits_below n _ _ (or_lt n (turned n a) (turned n b) (below_turned a) (below_turned b)) (below_turned (bit_and a b)) (λ i l.
      omega (
        arith,
        bit_at_or (turned n a) (turned n b) i,
        turned_bit n a i p l,
        turned_bit n b i q l,
        turned_bit n (bit_and a b) i and_below l,
        bit_at_and a b i,
        bit_small a i,
        bit_small b i,
      ))

  turned_xor : bit_xor (turned n a) b ≡ turned n (bit_xor a b)
  turned_xor = same_from_bits_below n _ _ (xor_lt n (turned n a) b (below_turned a) q) (below_turned (bit_xor a b)) (λ i l.
      omega (
        arith,
        bit_at_xor (turned n a) b i,
        turned_bit n a i p l,
        turned_bit n (bit_xor a b) i (xor_lt n a b p q) l,
        bit_at_xor a b i,
        bit_small a i,
        bit_small b i,
      ))

  xor_turned : bit_xor a (turned n b) ≡ turned n (bit_xor a b)
  xor_turned = same_from_bits_below n _ _ (xor_lt n a (turned n b) p (below_turned b)) (below_turned (bit_xor a b)) (λ i l.
      omega (
        arith,
        bit_at_xor a (turned n b) i,
        turned_bit n b i q l,
        turned_bit n (bit_xor a b) i (xor_lt n a b p q) l,
        bit_at_xor a b i,
        bit_small a i,
        bit_small b i,
      ))

  one_turned : bit_xor (turned n a) (turned n b) ≡ bit_xor a b
  one_turned = same_from_bits_below n _ _ (xor_lt n (turned n a) (turned n b) (below_turned a) (below_turned b)) (xor_lt n a b p q) (λ i l.
      omega (arith, bit_at_xor (turned n a) (turned n b) i, turned_bit n a i p l, turned_bit n b i q l, bit_at_xor a b i, bit_small a i, bit_small b i))

-- ---- the size of a number, with or without sign

abbrev pub size : ℤ → ℕ
size (pos a) = a
size (negsuc a) = a

abbrev pub is_below_zero : ℤ → Bool
is_below_zero (pos a) = false
is_below_zero (negsuc a) = true

-- its last bits
pub low_bits : (n : ℕ) (z : ℤ) → ℕ
low_bits n (pos a) = a
low_bits n (negsuc a) = turned n a

-- a number of fewer bits is its last ones
pub mod_is : (n : ℕ) (z : ℤ) → size z < 2 ^ n → floor_mod z (2 ^ n) ≡ low_bits n z
unfolding low_bits turned
mod_is n (pos a) h = mod-eq_of_lt h
mod_is n (negsuc a) h = ap (λ r. 2 ^ n - suc r) (mod-eq_of_lt h)

pub both_low : (n : ℕ) (a b : ℤ) → size a < 2 ^ n → size b < 2 ^ n → low_bits n (both_bits a b) ≡ bit_and (low_bits n a) (low_bits n b)
unfolding low_bits
both_low n (pos a) (pos b) p q = refl
both_low n (pos a) (negsuc b) p q = sym (and_turned n a b p q)
both_low n (negsuc a) (pos b) p q = sym (turned_and n a b p q)
both_low n (negsuc a) (negsuc b) p q = sym (both_turned n a b p q)

pub either_low : (n : ℕ) (a b : ℤ) → size a < 2 ^ n → size b < 2 ^ n → low_bits n (either_bit a b) ≡ bit_or (low_bits n a) (low_bits n b)
unfolding low_bits
either_low n (pos a) (pos b) p q = refl
either_low n (pos a) (negsuc b) p q = sym (or_turned n a b p q)
either_low n (negsuc a) (pos b) p q = sym (turned_or n a b p q)
either_low n (negsuc a) (negsuc b) p q = sym (either_turned n a b p q)

pub one_low : (n : ℕ) (a b : ℤ) → size a < 2 ^ n → size b < 2 ^ n → low_bits n (one_bit a b) ≡ bit_xor (low_bits n a) (low_bits n b)
unfolding low_bits
one_low n (pos a) (pos b) p q = refl
one_low n (pos a) (negsuc b) p q = sym (xor_turned n a b p q)
one_low n (negsuc a) (pos b) p q = sym (turned_xor n a b p q)
one_low n (negsuc a) (negsuc b) p q = sym (one_turned n a b p q)

-- the results have no more bits than the operands
pub both_size : (h : ℕ) (a b : ℤ) → size a < 2 ^ h → size b < 2 ^ h → size (both_bits a b) < 2 ^ h
both_size h (pos a) (pos b) p q = and_below h a b p q
both_size h (pos a) (negsuc b) p q = without_below h a b p q
both_size h (negsuc a) (pos b) p q = without_below h b a q p
both_size h (negsuc a) (negsuc b) p q = or_lt h a b p q

pub either_size : (h : ℕ) (a b : ℤ) → size a < 2 ^ h → size b < 2 ^ h → size (either_bit a b) < 2 ^ h
either_size h (pos a) (pos b) p q = or_lt h a b p q
either_size h (pos a) (negsuc b) p q = without_below h b a q p
either_size h (negsuc a) (pos b) p q = without_below h a b p q
either_size h (negsuc a) (negsuc b) p q = and_below h a b p q

pub one_size : (h : ℕ) (a b : ℤ) → size a < 2 ^ h → size b < 2 ^ h → size (one_bit a b) < 2 ^ h
one_size h (pos a) (pos b) p q = xor_lt h a b p q
one_size h (pos a) (negsuc b) p q = xor_lt h a b p q
one_size h (negsuc a) (pos b) p q = xor_lt h a b p q
one_size h (negsuc a) (negsuc b) p q = xor_lt h a b p q
