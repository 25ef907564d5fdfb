-- Conversions to kinds: residues, and what a converted number has in common with the one that it was.
use Rattle.std.proofs.Common.{◌≡◌, ℕ, zero, suc, ◌+◌, ◌-◌, ◌*◌, ◌/◌, ◌%◌, ◌^◌, ◌<◌, ℤ, pos, negsuc, ◌+ℤ◌, ◌-ℤ◌, ◌*ℤ◌, Bool, true, false, ◌&&◌, refl, sym, ap, ◌∙◌, subst, T, arith}
use Rattle.std.specs.Prelude.{int_le, ◌≤ℤ◌}
use lib.Signed.{le_z_yes}
use Rattle.std.specs.Int.{int_rem_euclid}
use Rattle.std.proofs.lemmas.Int.{ints, int_rem_euclid_is}
use Rattle.std.proofs.lemmas.Bool.{and_parts}
use Rattle.std.proofs.Math.Nat.{mod-add-mod, mod-eq_of_lt, mod-add-div', mul-suc, pow-suc, suc-mul}
use Rattle.wp_base.specs.declared.kinds.Kind.{Kind}
use Rattle.wp_base.specs.declared.kinds.Kind.TheVariants as kind
use Rattle.wp_base.specs.Kinds.{floor_div, floor_mod, kind_bits, is_signed, wrapped, whole_high, truth_number}
use Rattle.c_kinds.specs.declared.models.Machdep.{Machdep}
use Rattle.c_kinds.specs.declared.models.Machdep.TheVariants as model
use Rattle.c_kinds.specs.Models.{long_bits, low, high, holds, convert}
use Rattle.c_kinds.specs.Laws.{IsCongruent, Converts, ConversionsKeep}

-- ---- residues

-- what is left is the library's remainder
pub rest_is : (z : ℤ) (n : ℕ) → 0 < n → int_rem_euclid z (pos n) ≡ pos (floor_mod z n)
rest_is (pos a) n some = refl
rest_is (negsuc a) n some = ap pos (omega arith)

-- enough turns make a number one that isn't negative
turns_of : ℤ → ℕ
turns_of (pos a) = 0
turns_of (negsuc a) = suc a

raised : ℤ → ℕ → ℕ
raised (pos a) n = a
raised (negsuc a) n = suc a * (n - 1)

raised_is : (z : ℤ) (n : ℕ) → 0 < n → z +ℤ pos (turns_of z * n) ≡ pos (raised z n)
unfolding turns_of raised
raised_is (pos a) n some = omega (arith, ints)
raised_is (negsuc a) zero some = elim some [ ]
raised_is (negsuc a) (suc n) some =
    let turns : suc a * suc n ≡ suc a * n + suc a = mul-suc (suc a) n in
    let less : suc a * (suc n - 1) ≡ suc a * n = ap (λ k. suc a * k) (omega arith) in
    omega (arith, ints, turns, less)

raised_mod : (z : ℤ) (n h : ℕ) → 0 < n → floor_mod (z +ℤ pos h) n ≡ (raised z n + h) % n
raised_mod z n h some =
    let e = raised_is z n some in
    let sum : (z +ℤ pos h) +ℤ pos (turns_of z * n) ≡ pos (raised z n + h) = omega (arith, ints, e) in
    let rem = int_rem_euclid_is (z +ℤ pos h) (pos n) n (turns_of z) (raised z n + h) some refl sum in
    let both : pos (floor_mod (z +ℤ pos h) n) ≡ pos ((raised z n + h) % n) = sym (rest_is (z +ℤ pos h) n some) ∙ rem in
    cc

-- a sum may be taken of what is left
pub shifted : (z : ℤ) (n h : ℕ) → 0 < n → floor_mod (z +ℤ pos h) n ≡ (floor_mod z n + h) % n
shifted z n h some =
    let none : z +ℤ pos 0 ≡ z = omega (arith, ints) in
    let rest : floor_mod z n ≡ raised z n % n = ap (λ y. floor_mod y n) (sym none) ∙ raised_mod z n 0 some ∙ ap (λ m. m % n) (omega arith) in
    raised_mod z n h some ∙ sym (mod-add-mod (raised z n) n h) ∙ ap (λ r. (r + h) % n) (sym rest)

pub rest_below : (z : ℤ) (n : ℕ) → 0 < n → floor_mod z n < n
rest_below (pos a) n some = omega (arith, some)
rest_below (negsuc a) n some = omega arith

-- a number is what is left of it and a multiple
pub split : (z : ℤ) (n : ℕ) → 0 < n → z ≡ pos (floor_mod z n) +ℤ (floor_div z n *ℤ pos n)
split (pos a) n some = let parts = mod-add-div' a n in omega (arith, ints, parts)
split (negsuc a) n some =
    let parts = mod-add-div' a n in
    let one_more : suc (a / n) * n ≡ a / n * n + n = suc-mul (a / n) n in
    let below : a % n < n = omega (arith, some) in
    omega (arith, ints, parts, one_more, below)

pub power_twice : (bits : ℕ) → 0 < bits → 2 ^ bits ≡ 2 * 2 ^ (bits - 1)
power_twice zero some = elim some [ ]
power_twice (suc bits) some =
    let up = pow-suc 2 bits in
    let back : 2 ^ (suc bits - 1) ≡ 2 ^ bits = ap (λ k. 2 ^ k) (omega arith) in
    omega (arith, up, back)

pub power_some : (bits : ℕ) → 0 < 2 ^ bits
power_some zero = omega arith
power_some (suc bits) = let below = power_some bits in let up = pow-suc 2 bits in omega (arith, up)

-- ---- the code's words

-- the folded number, where the half is that of the kind's bits
folded : ℤ → (half n : ℕ) → ℤ
folded z half n = pos (floor_mod (z +ℤ pos half) n) -ℤ pos half

pub signed_is : (bits half rest : ℕ) (z : ℤ) → 0 < bits → half ≡ 2 ^ (bits - 1) → rest ≡ floor_mod z (2 * half) → pos ((rest + half) % (2 * half)) -ℤ pos half ≡ wrapped bits true z
unfolding folded
signed_is bits half rest z some h r =
    let positive : 0 < 2 * half = let p = power_some (bits - 1) in omega (arith, h, p) in
    ap (λ r. pos ((r + half) % (2 * half)) -ℤ pos half) r
    ∙ ap (λ m. pos m -ℤ pos half) (sym (shifted z (2 * half) half positive))
    ∙ ap (λ h. folded z h (2 * h)) h
    ∙ ap (λ n. folded z (2 ^ (bits - 1)) n) (sym (power_twice bits some))

pub unsigned_is : (bits half rest : ℕ) (z : ℤ) → 0 < bits → half ≡ 2 ^ (bits - 1) → rest ≡ floor_mod z (2 * half) → pos rest ≡ wrapped bits false z
unsigned_is bits half rest z some h r = ap pos (r ∙ ap (λ h. floor_mod z (2 * h)) h ∙ ap (λ n. floor_mod z n) (sym (power_twice bits some)))

pub convert_is : (m : Machdep) (k : Kind) (z : ℤ) → (k ≡ kind.Bool → ⊥) → convert m k z ≡ wrapped (kind_bits (long_bits m) k) (is_signed k) z
convert_is m kind.Bool z other = absurd (other refl)
convert_is m kind.Char z other = refl
convert_is m kind.SChar z other = refl
convert_is m kind.UChar z other = refl
convert_is m kind.Short z other = refl
convert_is m kind.UShort z other = refl
convert_is m kind.Int z other = refl
convert_is m kind.UInt z other = refl
convert_is m kind.Long z other = refl
convert_is m kind.ULong z other = refl
convert_is m kind.LLong z other = refl
convert_is m kind.ULLong z other = refl

pub bits_some : (m : Machdep) (k : Kind) → 0 < kind_bits (long_bits m) k
bits_some m kind.Bool = omega arith
bits_some m kind.Char = omega arith
bits_some m kind.SChar = omega arith
bits_some m kind.UChar = omega arith
bits_some m kind.Short = omega arith
bits_some m kind.UShort = omega arith
bits_some m kind.Int = omega arith
bits_some m kind.UInt = omega arith
bits_some model.X86_32 kind.Long = omega arith
bits_some model.X86_64 kind.Long = omega arith
bits_some model.X86_32 kind.ULong = omega arith
bits_some model.X86_64 kind.ULong = omega arith
bits_some m kind.LLong = omega arith
bits_some m kind.ULLong = omega arith

-- ---- the law

from_t : (b : Bool) → T b → b ≡ true
from_t true t = refl
from_t false t = absurd t

pub le_test : (a b : ℤ) → a ≤ℤ b → int_le a b ≡ true
le_test a b h = from_t (int_le a b) h.le

pub test_le : (a b : ℤ) → int_le a b ≡ true → a ≤ℤ b
test_le a b e = le_z_yes (subst T (sym e) tt)

pub both_true : {a b : Bool} → a ≡ true → b ≡ true → (a && b) ≡ true
both_true p q = λ i. p i && q i

-- the ends of a kind other than `_Bool`
abbrev low_by : ℕ → (signed : Bool) → ℤ
low_by bits true = pos 0 -ℤ pos (2 ^ (bits - 1))
low_by bits false = pos 0

held_by : (bits : ℕ) (signed : Bool) (z : ℤ) → 0 < bits → (int_le (low_by bits signed) (wrapped bits signed z) && int_le (wrapped bits signed z) (whole_high bits signed)) ≡ true
held_by bits false z some =
    let below = rest_below z (2 ^ bits) (power_some bits) in
    both_true (le_test (pos 0) (wrapped bits false z) (omega (arith, ints))) (le_test (wrapped bits false z) (whole_high bits false) (omega (arith, ints, below)))
held_by bits true z some =
    let below = rest_below (z +ℤ pos (2 ^ (bits - 1))) (2 ^ bits) (power_some bits) in
    let twice = power_twice bits some in
    both_true (le_test (low_by bits true) (wrapped bits true z) (omega (arith, ints))) (le_test (wrapped bits true z) (whole_high bits true) (omega (arith, ints, below, twice)))

natural : (y : ℤ) → pos 0 ≤ℤ y → (m : ℕ) × (y ≡ pos m)
natural (pos m) h = (m, refl)
natural (negsuc m) h = absurd h.le

kept_by : (bits : ℕ) (signed : Bool) (z : ℤ) → 0 < bits → (int_le (low_by bits signed) z && int_le z (whole_high bits signed)) ≡ true → wrapped bits signed z ≡ z
kept_by bits false z some h =
    let parts = and_parts (int_le (pos 0) z) _ h in
    let m = natural z (test_le (pos 0) z parts.0) in
    let high = test_le z (pos (2 ^ bits - 1)) parts.1 in
    let positive = power_some bits in
    let below : m.0 < 2 ^ bits = omega (arith, ints, high, m.1, positive) in
    ap (λ y. pos (floor_mod y (2 ^ bits))) m.1 ∙ ap pos (mod-eq_of_lt below) ∙ sym m.1
kept_by bits true z some h =
    let parts = and_parts (int_le (pos 0 -ℤ pos (2 ^ (bits - 1))) z) _ h in
    let low = test_le (pos 0 -ℤ pos (2 ^ (bits - 1))) z parts.0 in
    let high = test_le z (pos (2 ^ (bits - 1) - 1)) parts.1 in
    let positive = power_some (bits - 1) in
    let m = natural (z +ℤ pos (2 ^ (bits - 1))) (omega (arith, ints, low)) in
    let twice = power_twice bits some in
    let below : m.0 < 2 ^ bits = omega (arith, ints, high, m.1, positive, twice) in
    let rest : wrapped bits true z ≡ pos m.0 -ℤ pos (2 ^ (bits - 1)) = ap (λ y. pos (floor_mod y (2 ^ bits)) -ℤ pos (2 ^ (bits - 1))) m.1 ∙ ap (λ r. pos r -ℤ pos (2 ^ (bits - 1))) (mod-eq_of_lt below) in
    rest ∙ omega (arith, ints, m.1)

congruent_by : (bits : ℕ) (signed : Bool) (z : ℤ) → IsCongruent bits (wrapped bits signed z) z
congruent_by bits false z = record { turns = floor_div z (2 ^ bits); differ = split z (2 ^ bits) (power_some bits) }
congruent_by bits true z =
    let y : ℤ = z +ℤ pos (2 ^ (bits - 1)) in
    let parts = split y (2 ^ bits) (power_some bits) in
    record { turns = floor_div y (2 ^ bits); differ = omega (arith, ints, parts) }

bool_held : (z : ℤ) → (int_le (pos 0) (truth_number z) && int_le (truth_number z) (pos 1)) ≡ true
bool_held (pos zero) = refl
bool_held (pos (suc n)) = refl
bool_held (negsuc n) = refl

bool_kept : (z : ℤ) → (int_le (pos 0) z && int_le z (pos 1)) ≡ true → truth_number z ≡ z
bool_kept (pos zero) h = refl
bool_kept (pos (suc zero)) h = refl
bool_kept (pos (suc (suc n))) h = let high = test_le (pos (suc (suc n))) (pos 1) (and_parts (int_le (pos 0) (pos (suc (suc n)))) (int_le (pos (suc (suc n))) (pos 1)) h).1 in absurd (omega (arith, ints, high))
bool_kept (negsuc n) h = let low = test_le (pos 0) (negsuc n) (and_parts (int_le (pos 0) (negsuc n)) (int_le (negsuc n) (pos 1)) h).0 in absurd (omega (arith, ints, low))

by_bits : (m : Machdep) (k : Kind) (z : ℤ) → (bits : ℕ) (signed : Bool) → 0 < bits → low m k ≡ low_by bits signed → high m k ≡ whole_high bits signed → kind_bits (long_bits m) k ≡ bits → convert m k z ≡ wrapped bits signed z
    → Converts m k z
by_bits m k z bits signed some lows highs width made =
    let in_words : (y : ℤ) → holds m k y ≡ (int_le (low_by bits signed) y && int_le y (whole_high bits signed)) = λ y. (λ i. int_le (lows i) y && int_le y (highs i)) in
    record {
      held = ap (λ y. holds m k y) made ∙ in_words (wrapped bits signed z) ∙ held_by bits signed z some;
      kept = λ h. made ∙ kept_by bits signed z some (sym (in_words z) ∙ h);
      congruent = λ other. subst (λ y. IsCongruent (kind_bits (long_bits m) k) y z) (sym made) (subst (λ b. IsCongruent b (wrapped bits signed z) z) (sym width) (congruent_by bits signed z));
    }

pub conversions_keep : ConversionsKeep
conversions_keep m kind.Bool z = record { held = bool_held z; kept = bool_kept z; congruent = λ other. absurd (other refl) }
conversions_keep m kind.Char z = by_bits m kind.Char z 8 true (omega arith) refl refl refl refl
conversions_keep m kind.SChar z = by_bits m kind.SChar z 8 true (omega arith) refl refl refl refl
conversions_keep m kind.UChar z = by_bits m kind.UChar z 8 false (omega arith) refl refl refl refl
conversions_keep m kind.Short z = by_bits m kind.Short z 16 true (omega arith) refl refl refl refl
conversions_keep m kind.UShort z = by_bits m kind.UShort z 16 false (omega arith) refl refl refl refl
conversions_keep m kind.Int z = by_bits m kind.Int z 32 true (omega arith) refl refl refl refl
conversions_keep m kind.UInt z = by_bits m kind.UInt z 32 false (omega arith) refl refl refl refl
conversions_keep m kind.Long z = by_bits m kind.Long z (long_bits m) true (bits_some m kind.Long) refl refl refl refl
conversions_keep m kind.ULong z = by_bits m kind.ULong z (long_bits m) false (bits_some m kind.ULong) refl refl refl refl
conversions_keep m kind.LLong z = by_bits m kind.LLong z 64 true (omega arith) refl refl refl refl
conversions_keep m kind.ULLong z = by_bits m kind.ULLong z 64 false (omega arith) refl refl refl refl
