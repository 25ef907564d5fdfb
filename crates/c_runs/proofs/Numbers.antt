-- Numbers of a kind: its ends, tests on numbers, and where a kind holds a quotient.
use Rattle.std.proofs.Common.{◌≡◌, ℕ, zero, suc, ◌-◌, ◌/◌, ◌≤◌, ℤ, pos, negsuc, ◌-ℤ◌, ◌≤ℤ◌, neg_ℤ, Bool, true, false, not, ◌&&◌, refl, sym, ap, ◌∙◌, subst, arith}
use Rattle.std.specs.Prelude.{int_le, int_div}
use Rattle.std.specs.Ordering.{int_eq}
use Rattle.std.proofs.lemmas.Int.{ints}
use Rattle.std.proofs.lemmas.Bool.{and_parts}
use Rattle.std.proofs.lemmas.Bool.Decides.{Decides-int_eq, same_from_decides}
use Rattle.std.proofs.Math.Nat.{div-le_self}
use Rattle.wp_base.specs.declared.kinds.Kind.{Kind}
use Rattle.wp_base.specs.declared.kinds.Kind.TheVariants as kind
use Rattle.wp_base.specs.Kinds.{is_signed}
use Rattle.c_kinds.specs.declared.models.Machdep.{Machdep}
use Rattle.c_kinds.specs.declared.models.Machdep.TheVariants as model
use Rattle.c_kinds.specs.Models.{low, high, holds}
use Rattle.c_kinds.proofs.Converting.{test_le, le_test, both_true}
use Rattle.c_kinds.proofs.Sizes.{narrow, not_negative}
use Rattle.c_runs.specs.TruthTold.{is_zero, is_equal}

-- ---- tests

pub zero_when : (z : ℤ) → is_zero z ≡ true → z ≡ pos 0
zero_when (pos zero) h = refl
zero_when (pos (suc n)) h = absurd cc
zero_when (negsuc n) h = absurd cc

-- two numbers are equal where their difference is 0
pub equal_is : (a b : ℤ) → is_equal a b ≡ int_eq a b
equal_is a b =
    same_from_decides (is_equal a b) (int_eq a b)
    ((λ h. let e = zero_when (a -ℤ b) h in omega (arith, ints, e)), (λ e. let z : (a -ℤ b) ≡ pos 0 = omega (arith, ints, e) in ap is_zero z))
    (Decides-int_eq a b)

pub zero_is : (b : ℤ) → is_zero b ≡ int_eq b (pos 0)
zero_is b =
    same_from_decides (is_zero b) (int_eq b (pos 0)) (zero_when b, (λ e. ap is_zero e)) (Decides-int_eq b (pos 0))

-- ---- the ends of a kind

pub record Ends (m : Machdep) (k : Kind) : Type 0 where
  pub most : ℕ
  pub low_is : low m k ≡ negsuc most
  pub high_is : high m k ≡ pos most

-- a signed kind has one number more below 0
pub signed_ends : (m : Machdep) (k : Kind) → is_signed k ≡ true → Ends m k
signed_ends m kind.Bool e = absurd cc
signed_ends m kind.Char e = record { most = 127; low_is = refl; high_is = refl }
signed_ends m kind.SChar e = record { most = 127; low_is = refl; high_is = refl }
signed_ends m kind.UChar e = absurd cc
signed_ends m kind.Short e = record { most = 32767; low_is = refl; high_is = refl }
signed_ends m kind.UShort e = absurd cc
signed_ends m kind.Int e = record { most = 2147483647; low_is = refl; high_is = refl }
signed_ends m kind.UInt e = absurd cc
signed_ends model.X86_32 kind.Long e = record { most = 2147483647; low_is = refl; high_is = refl }
signed_ends model.X86_64 kind.Long e = record { most = 9223372036854775807; low_is = refl; high_is = refl }
signed_ends m kind.ULong e = absurd cc
signed_ends m kind.LLong e = record { most = 9223372036854775807; low_is = refl; high_is = refl }
signed_ends m kind.ULLong e = absurd cc

pub above_low : (m : Machdep) (k : Kind) (z : ℤ) → holds m k z ≡ true → low m k ≤ℤ z
above_low m k z h = test_le (low m k) z (and_parts (int_le (low m k) z) _ h).0

pub below_high : (m : Machdep) (k : Kind) (z : ℤ) → holds m k z ≡ true → z ≤ℤ high m k
below_high m k z h = test_le z (high m k) (and_parts (int_le (low m k) z) _ h).1

pub in_between : (m : Machdep) (k : Kind) (z : ℤ) → low m k ≤ℤ z → z ≤ℤ high m k → holds m k z ≡ true
in_between m k z above below = both_true (le_test (low m k) z above) (le_test z (high m k) below)

-- a number from 0 up is held where it isn't above the end
pub natural_held : (m : Machdep) (k : Kind) (n : ℕ) → holds m k (pos n) ≡ int_le (pos n) (high m k)
natural_held m k n = let e = (narrow m k).no_more in ap (λ b. b && int_le (pos n) (high m k)) (le_test (low m k) (pos n) (omega (arith, ints, e)))

-- ---- quotients

half_less : (n d : ℕ) → suc n / suc (suc d) ≤ n
half_less n d = omega arith

pub one_whole : (n : ℕ) → n / 1 ≡ n
one_whole n = omega arith

-- between the negative of a size and the size
abbrev pub IsNear : (size : ℕ) → ℤ → Type 0
IsNear n z = (neg_ℤ (pos n) ≤ℤ z) × (z ≤ℤ pos n)

near_held : (m : Machdep) (k : Kind) → is_signed k ≡ true → (e : Ends m k) (n : ℕ) (z : ℤ) → n ≤ e.most → IsNear n z → holds m k z ≡ true
near_held m k s e n z le near =
    let lo = e.low_is in
    let hi = e.high_is in
    let below = near.0 in
    let above = near.1 in
    in_between m k z (rw lo (omega (arith, ints, le, below))) (rw hi (omega (arith, ints, le, above)))

-- no quotient is larger than what is divided
divided_near : (a : ℕ) (b : ℤ) → IsNear a (int_div (pos a) b)
divided_near a (pos d) = let le = div-le_self a d in (omega (arith, ints, le), omega (arith, ints, le))
divided_near a (negsuc d) = let le = div-le_self a (suc d) in (omega (arith, ints, le), omega (arith, ints, le))

negative_near : (a d : ℕ) → IsNear (suc a) (int_div (negsuc a) (pos d))
negative_near a d = let le = div-le_self (suc a) d in (omega (arith, ints, le), omega (arith, ints, le))

pub never_true : (b : Bool) → (b ≡ true → ⊥) → b ≡ false
never_true true h = absurd (h refl)
never_true false h = refl

second_false : (x y : Bool) → y ≡ false → (x && y) ≡ false
second_false true y e = e
second_false false y e = refl

differ_by : (a b : ℤ) → (a ≡ b → ⊥) → is_equal a b ≡ false
differ_by a b h = never_true (is_equal a b) (λ e. h (let z = zero_when (a -ℤ b) e in omega (arith, ints, z)))

self_equal : (z : ℤ) → is_equal z z ≡ true
self_equal z = let e : (z -ℤ z) ≡ pos 0 = omega (arith, ints) in ap is_zero e

-- a signed kind holds the quotient, but that of its least number by -1
pub signed_quotient : (m : Machdep) (k : Kind) → is_signed k ≡ true → (a b : ℤ) → holds m k a ≡ true → is_zero b ≡ false
    → not (is_equal a (low m k) && is_equal b (negsuc 0)) ≡ holds m k (int_div a b)
signed_quotient m k s (pos n) b h some =
    let e = signed_ends m k s in
    let lo = e.low_is in
    let hi = e.high_is in
    let top = below_high m k (pos n) h in
    let le : n ≤ e.most = let t : pos n ≤ℤ pos e.most = subst (λ z. pos n ≤ℤ z) hi top in omega (arith, ints, t) in
    let other : is_equal (pos n) (low m k) ≡ false = differ_by (pos n) (low m k) (λ q. let t : pos n ≡ negsuc e.most = q ∙ lo in absurd cc) in
    ap (λ t. not (t && is_equal b (negsuc 0))) other ∙ sym (near_held m k s e n (int_div (pos n) b) le (divided_near n b))
signed_quotient m k s (negsuc n) (pos d) h some =
    let ends = narrow m k in
    let bottom = above_low m k (negsuc n) h in
    let near = negative_near n d in
    let high = ends.natural in
    let below = near.0 in
    let other : is_equal (pos d) (negsuc 0) ≡ false = differ_by (pos d) (negsuc 0) (λ q. absurd cc) in
    ap not (second_false (is_equal (negsuc n) (low m k)) (is_equal (pos d) (negsuc 0)) other)
    ∙ sym (in_between m k (int_div (negsuc n) (pos d)) (omega (arith, ints, bottom, below)) (omega (arith, ints, high, not_above n d)))
  where
    not_above : (n d : ℕ) → int_div (negsuc n) (pos d) ≤ℤ pos 0
    not_above n d = omega (arith, ints)
signed_quotient m k s (negsuc n) (negsuc (suc d)) h some =
    let e = signed_ends m k s in
    let lo = e.low_is in
    let bottom = above_low m k (negsuc n) h in
    let le : n ≤ e.most = let t : negsuc e.most ≤ℤ negsuc n = subst (λ z. z ≤ℤ negsuc n) lo bottom in omega (arith, ints, t) in
    let half = half_less n d in
    let other : is_equal (negsuc (suc d)) (negsuc 0) ≡ false = differ_by (negsuc (suc d)) (negsuc 0) (λ q. absurd cc) in
    ap not (second_false (is_equal (negsuc n) (low m k)) (is_equal (negsuc (suc d)) (negsuc 0)) other)
    ∙ sym (near_held m k s e n (int_div (negsuc n) (negsuc (suc d))) le (omega (arith, ints, half), omega (arith, ints, half)))
signed_quotient m k s (negsuc n) (negsuc zero) h some =
    let e = signed_ends m k s in
    let bottom = above_low m k (negsuc n) h in
    let le : n ≤ e.most = let t : negsuc e.most ≤ℤ negsuc n = subst (λ z. z ≤ℤ negsuc n) e.low_is bottom in omega (arith, ints, t) in
    by_equal (is_equal (negsuc n) (low m k)) refl e le ∙ sym (ap (λ q. holds m k (pos q)) (one_whole (suc n)))
  where
    by_equal : (t : Bool) → is_equal (negsuc n) (low m k) ≡ t → (e : Ends m k) → n ≤ e.most → not (t && true) ≡ holds m k (pos (suc n))
    by_equal true q e le =
        let z = zero_when (negsuc n -ℤ low m k) q in
        let z' : (negsuc n -ℤ negsuc e.most) ≡ pos 0 = subst (λ x. (negsuc n -ℤ x) ≡ pos 0) e.low_is z in
        sym (natural_held m k (suc n) ∙ never_true (int_le (pos (suc n)) (high m k)) (λ t.
        let u : pos (suc n) ≤ℤ pos e.most = subst (λ x. pos (suc n) ≤ℤ x) e.high_is (test_le (pos (suc n)) (high m k) t) in absurd (omega (arith, ints, u, z'))))
    by_equal false q e le =
        let other : n ≡ e.most → ⊥ = λ same.
        let u : is_equal (negsuc n) (low m k) ≡ true =
        ap (λ x. is_equal (negsuc n) x) e.low_is ∙ ap (λ x. is_equal (negsuc n) (negsuc x)) (sym same) ∙ self_equal (negsuc n) in absurd cc in
        sym (natural_held m k (suc n) ∙ le_test (pos (suc n)) (high m k) (rw e.high_is (omega (arith, ints, le, other))))

pub unsigned_quotient : (m : Machdep) (k : Kind) → is_signed k ≡ false → (a b : ℤ) → holds m k a ≡ true → holds m k b ≡ true → true ≡ holds m k (int_div a b)
unsigned_quotient m k s (pos n) (pos d) h g =
    let le = div-le_self n d in
    let top = below_high m k (pos n) h in
    sym (natural_held m k (n / d) ∙ le_test (pos (n / d)) (high m k) (omega (arith, ints, le, top)))
unsigned_quotient m k s (pos n) (negsuc d) h g = absurd (not_negative m k (negsuc d) s g).le
unsigned_quotient m k s (negsuc n) b h g = absurd (not_negative m k (negsuc n) s h).le
