-- A number and its bits, in two's complement.
use Rattle.std.proofs.Common.{◌≡◌, ℕ, suc, ◌+◌, ◌-◌, ◌%◌, ◌^◌, ◌<◌, ◌≤◌, ℤ, pos, negsuc, ◌+ℤ◌, ◌-ℤ◌, ◌≤ℤ◌, Bool, true, false, sym, ap, ◌∙◌, subst, inl, inr, arith}
use Rattle.std.specs.Prelude.{if◌then◌else◌, int_le, bit_and, bit_or, bit_xor}
use Rattle.std.specs.Int.{bit_at}
use Rattle.std.proofs.lemmas.Int.{ints}
use Rattle.std.proofs.lemmas.Bool.{and_parts, cases_lt}
use Rattle.std.proofs.lemmas.Nat.{and_le_l, or_lt, xor_lt}
use Rattle.std.proofs.lemmas.Nat.Bits.{bit_at_and, bit_at_or, bit_at_xor}
use Rattle.std.proofs.Math.Nat.{mod-eq_of_lt, mod-eq-sub-mod}
use Rattle.wp_base.specs.declared.kinds.Kind.{Kind}
use Rattle.wp_base.specs.declared.kinds.Kind.TheVariants as kind
use Rattle.wp_base.specs.Kinds.{floor_mod, is_signed, whole_high, wrapped}
use Rattle.c_kinds.specs.declared.models.Machdep.{Machdep}
use Rattle.c_kinds.specs.Models.{low, high, holds}
use Rattle.c_kinds.specs.Numbers as n
use Rattle.c_kinds.specs.NumberLaws.{bit, OperatorsActOnBits}
use Rattle.c_kinds.proofs.Converting.{convert_is, bits_some, test_le, power_some, power_twice}
use Rattle.c_kinds.proofs.Results.{high_is, chosen_is}
use Rattle.c_kinds.proofs.Sizes.{bits_below}

-- ---- the number with given bits

wrapped_low : (bits n : ℕ) → 0 < bits → n < 2 ^ (bits - 1) → wrapped bits true (pos n) ≡ pos n
wrapped_low bits n some low =
    let twice = power_twice bits some in
    ap (λ r. pos r -ℤ pos (2 ^ (bits - 1))) (mod-eq_of_lt (omega (arith, low, twice))) ∙ omega (arith, ints)

wrapped_high : (bits n : ℕ) → 0 < bits → 2 ^ (bits - 1) ≤ n → n < 2 ^ bits → wrapped bits true (pos n) ≡ pos n -ℤ pos (2 ^ bits)
wrapped_high bits n some high within =
    let twice = power_twice bits some in
    let turned : (n + 2 ^ (bits - 1)) % 2 ^ bits ≡ (n + 2 ^ (bits - 1)) - 2 ^ bits = mod-eq-sub-mod (omega (arith, high, twice)) ∙ mod-eq_of_lt (omega (arith, within, twice, high)) in
    ap (λ r. pos r -ℤ pos (2 ^ (bits - 1))) turned ∙ omega (arith, ints, high, within, twice)

-- such a number has these bits
bits_back : (bits : ℕ) (signed : Bool) (n : ℕ) → 0 < bits → n < 2 ^ bits → floor_mod (wrapped bits signed (pos n)) (2 ^ bits) ≡ n
bits_back bits false n some within = ap (λ r. r % 2 ^ bits) (mod-eq_of_lt within) ∙ mod-eq_of_lt within
bits_back bits true n some within = elim (cases_lt n (2 ^ (bits - 1))) [
  | inl low ↦ ap (λ z. floor_mod z (2 ^ bits)) (wrapped_low bits n some low) ∙ mod-eq_of_lt within
  | inr high ↦
      let below : pos n -ℤ pos (2 ^ bits) ≡ negsuc (2 ^ bits - n - 1) = omega (arith, ints, within) in
      ap (λ z. floor_mod z (2 ^ bits)) (wrapped_high bits n some high within ∙ below)
      ∙ ap (λ r. 2 ^ bits - suc r) (mod-eq_of_lt (omega (arith, within, power_some bits)))
      ∙ omega (arith, within)
]

with_bits_has : (m : Machdep) (k : Kind) (b : ℕ) → (k ≡ kind.Bool → ⊥) → b < 2 ^ n.bits m k → n.bits_of m k (n.with_bits m k b) ≡ b
with_bits_has m k b other within = ap (n.bits_of m k) (convert_is m k (pos b) other) ∙ bits_back (n.bits m k) (is_signed k) b (bits_some m k) within

-- ---- the bits of a number of the kind

-- where a number of so many bits lies
record IsWithin (bits : ℕ) (signed : Bool) (z : ℤ) : Type 0 where
  above : (if signed then pos 0 -ℤ pos (2 ^ (bits - 1)) else pos 0) ≤ℤ z
  below : z ≤ℤ whole_high bits signed

within_of : (m : Machdep) (k : Kind) (z : ℤ) → (k ≡ kind.Bool → ⊥) → holds m k z ≡ true → IsWithin (n.bits m k) (is_signed k) z
within_of m k z other h =
    let parts = and_parts (int_le (low m k) z) _ h in
    record { above = test_le (low m k) z parts.0; below = subst (λ e. z ≤ℤ e) (high_is m k other) (test_le z (high m k) parts.1) }

own_back : (bits : ℕ) (signed : Bool) (z : ℤ) → 0 < bits → IsWithin bits signed z → wrapped bits signed (pos (floor_mod z (2 ^ bits))) ≡ z
own_back bits false (pos a) some within =
    let below : a < 2 ^ bits = let most = within.below in let positive = power_some bits in omega (arith, ints, most, positive) in
    ap (λ r. pos (r % 2 ^ bits)) (mod-eq_of_lt below) ∙ ap pos (mod-eq_of_lt below)
own_back bits false (negsuc a) some within = absurd within.above.le
own_back bits true (pos a) some within =
    let low : a < 2 ^ (bits - 1) = let most = within.below in let positive = power_some (bits - 1) in omega (arith, ints, most, positive) in
    let twice = power_twice bits some in
    ap (λ r. wrapped bits true (pos r)) (mod-eq_of_lt (omega (arith, low, twice))) ∙ wrapped_low bits a some low
own_back bits true (negsuc a) some within =
    let least = within.above in
    let low : a < 2 ^ (bits - 1) = omega (arith, ints, least) in
    let twice = power_twice bits some in
    ap (λ r. wrapped bits true (pos (2 ^ bits - suc r))) (mod-eq_of_lt (omega (arith, low, twice)))
    ∙ wrapped_high bits (2 ^ bits - suc a) some (omega (arith, low, twice)) (omega (arith, low, twice))
    ∙ omega (arith, ints, low, twice)

-- ---- complements

other_back : (bits : ℕ) (signed : Bool) (z : ℤ) → 0 < bits → IsWithin bits signed z
    → (z +ℤ wrapped bits signed (pos (2 ^ bits - 1 - floor_mod z (2 ^ bits)))) ≡ (if signed then negsuc 0 else whole_high bits signed)
other_back bits false (pos a) some within =
    let below : a < 2 ^ bits = let most = within.below in let positive = power_some bits in omega (arith, ints, most, positive) in
    ap (λ r. pos a +ℤ pos ((2 ^ bits - 1 - r) % 2 ^ bits)) (mod-eq_of_lt below)
    ∙ ap (λ r. pos a +ℤ pos r) (mod-eq_of_lt (omega (arith, below)))
    ∙ omega (arith, ints, below)
other_back bits false (negsuc a) some within = absurd within.above.le
other_back bits true (pos a) some within =
    let low : a < 2 ^ (bits - 1) = let most = within.below in let positive = power_some (bits - 1) in omega (arith, ints, most, positive) in
    let twice = power_twice bits some in
    ap (λ r. pos a +ℤ wrapped bits true (pos (2 ^ bits - 1 - r))) (mod-eq_of_lt (omega (arith, low, twice)))
    ∙ ap (λ w. pos a +ℤ w) (wrapped_high bits (2 ^ bits - 1 - a) some (omega (arith, low, twice)) (omega (arith, low, twice)))
    ∙ omega (arith, ints, low, twice)
other_back bits true (negsuc a) some within =
    let least = within.above in
    let low : a < 2 ^ (bits - 1) = omega (arith, ints, least) in
    let twice = power_twice bits some in
    let own : 2 ^ bits - 1 - (2 ^ bits - suc a) ≡ a = omega (arith, low, twice) in
    ap (λ r. negsuc a +ℤ wrapped bits true (pos (2 ^ bits - 1 - (2 ^ bits - suc r)))) (mod-eq_of_lt (omega (arith, low, twice)))
    ∙ ap (λ r. negsuc a +ℤ wrapped bits true (pos r)) own
    ∙ ap (λ w. negsuc a +ℤ w) (wrapped_low bits a some low)
    ∙ omega (arith, ints)

-- ---- the law

pub operators_act_on_bits : OperatorsActOnBits
unfolding n.and_bits n.xor_bits n.or_bits n.complement
operators_act_on_bits m k y z other =
    let first = bits_below m k y in
    let second = bits_below m k z in
    record {
      own_bits = λ h. convert_is m k _ other ∙ own_back (n.bits m k) (is_signed k) z (bits_some m k) (within_of m k z other h);
      ands = λ r e i.
          let is = (chosen_is (n.both_held m k y z) (n.with_bits m k (bit_and (n.bits_of m k y) (n.bits_of m k z))) r e).1 in
          let less = and_le_l (n.bits_of m k y) (n.bits_of m k z) in
          ap (λ r. bit m k r i) is ∙ ap (λ b. bit_at b i) (with_bits_has m k (bit_and (n.bits_of m k y) (n.bits_of m k z)) other (omega (arith, less, first))) ∙ bit_at_and (n.bits_of m k y) (n.bits_of m k z) i;
      xors = λ r e i.
          let is = (chosen_is (n.both_held m k y z) (n.with_bits m k (bit_xor (n.bits_of m k y) (n.bits_of m k z))) r e).1 in
          ap (λ r. bit m k r i) is ∙ ap (λ b. bit_at b i) (with_bits_has m k (bit_xor (n.bits_of m k y) (n.bits_of m k z)) other (xor_lt (n.bits m k) (n.bits_of m k y) (n.bits_of m k z) first second))
          ∙ bit_at_xor (n.bits_of m k y) (n.bits_of m k z) i;
      ors = λ r e i.
          let is = (chosen_is (n.both_held m k y z) (n.with_bits m k (bit_or (n.bits_of m k y) (n.bits_of m k z))) r e).1 in
          ap (λ r. bit m k r i) is ∙ ap (λ b. bit_at b i) (with_bits_has m k (bit_or (n.bits_of m k y) (n.bits_of m k z)) other (or_lt (n.bits m k) (n.bits_of m k y) (n.bits_of m k z) first second))
          ∙ bit_at_or (n.bits_of m k y) (n.bits_of m k z) i;
      complements = λ r e.
          let is = chosen_is (holds m k z) (n.with_bits m k (2 ^ n.bits m k - 1 - n.bits_of m k z)) r e in
          ap (λ r. z +ℤ r) (is.1 ∙ convert_is m k _ other)
          ∙ other_back (n.bits m k) (is_signed k) z (bits_some m k) (within_of m k z other is.0)
          ∙ ap (λ e. if is_signed k then negsuc 0 else e) (sym (high_is m k other));
    }
