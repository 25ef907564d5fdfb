-- Shifts by more places than a number has bits.
use Rattle.std.proofs.Common.{◌≡◌, ℕ, ◌*◌, ◌/◌, ◌%◌, ◌^◌, ◌<◌, ◌≤◌, min, Bool, true, false, cond, ℤ, pos, negsuc, refl, sym, ◌∙◌, ap, arith}
use Rattle.std.specs.Prelude.{Some, None, nat_le}
use Rattle.std.proofs.Math.Nat.{div-eq_of_lt, mod-eq_of_lt, div-le_self}
use Rattle.std.proofs.lemmas.Bool.{leb-true, leb-false, le-leb, lt-leb}
use Rattle.std.proofs.Math.Pow.{pow_mono, pow-lt}
use Rattle.wp_base.specs.Blocks.{to_nat}
use Rattle.qed_terms.specs.Operators.{shifted_right}
use Rattle.qed_numbers.specs.Numbers.{power_of_two}
use Rattle.qed_numbers.specs.declared.bits.Bits.{Bits}
use Rattle.qed_numbers.specs.View.{bits_value}

same_shift : (x n : ℕ) → x < 2 ^ 127 → x / 2 ^ min n 127 ≡ x / 2 ^ n
same_shift x n k = go (nat_le n 127) refl
  where
    go : (b : Bool) → nat_le n 127 ≡ b → x / 2 ^ min n 127 ≡ x / 2 ^ n
    go true e = let l = leb-true n 127 e in let m : min n 127 ≡ n = omega (arith, l) in ap (λ i. x / 2 ^ i) m
    go false e =
        let l = leb-false n 127 e in
        let m : min n 127 ≡ 127 = omega (arith, l) in
        let more : 127 ≤ n = omega (arith, l) in
        let high : 2 ^ 127 ≤ 2 ^ n = pow_mono more in
        let low : x < 2 ^ n = omega (arith, k, high) in
        ap (λ i. x / 2 ^ i) m ∙ div-eq_of_lt k ∙ sym (div-eq_of_lt low)

pub shift_small : (x n : ℕ) → x < 2 ^ 127 → x / 2 ^ n < 2 ^ 127
shift_small x n k = let l : x / 2 ^ n ≤ x = div-le_self x (2 ^ n) in omega (arith, k, l)

-- the number of the bits, each so many places further down
pub shift_is : (b : Bits) (o : ℕ) (v by z : ℤ) → bits_value b ≡ v → b.ones < 2 ^ 127 → o ≡ b.ones / 2 ^ min (to_nat by) 127 → z ≡ bits_value (record { turned = b.turned; ones = o }) → z ≡ shifted_right v by
shift_is b o v by z e k f g = g ∙ go (b.turned) refl ∙ ap (λ x. shifted_right x by) e
  where
    same : o ≡ b.ones / 2 ^ to_nat by
    same = f ∙ same_shift b.ones (to_nat by) k

    go : (t : Bool) → b.turned ≡ t → cond t (negsuc o) (pos o) ≡ shifted_right (cond t (negsuc b.ones) (pos b.ones)) by
    go true i = ap negsuc same
    go false i = ap pos same

no_power : (by : ℤ) → 126 < min (to_nat by) 127 → None ≡ power_of_two by
no_power by k = sym (ap (λ b. cond b (Some (pos (2 ^ to_nat by))) None) (lt-leb (to_nat by) 126 (omega (arith, k))))

pub a_power : (by : ℤ) → min (to_nat by) 127 ≤ 126 → Some (pos (2 ^ min (to_nat by) 127)) ≡ power_of_two by
a_power by k =
    let n : to_nat by ≤ 126 = omega (arith, k) in
    let m : min (to_nat by) 127 ≡ to_nat by = omega (arith, k) in
    ap (λ i. Some (pos (2 ^ i))) m ∙ sym (ap (λ b. cond b (Some (pos (2 ^ to_nat by))) None) (le-leb (to_nat by) 126 n))

-- a power that fits is none that wraps
pub power_fits : (p : ℕ) → p ≤ 126 → (1 * 2 ^ p % 340282366920938463463374607431768211456 ≡ 2 ^ p) × (2 ^ p < 2 ^ 127)
power_fits p k =
    let l : p < 127 = omega (arith, k) in
    let small : 2 ^ p < 2 ^ 127 = pow-lt l in
    let below : 1 * 2 ^ p < 340282366920938463463374607431768211456 = omega (arith, small) in
    (mod-eq_of_lt below ∙ omega arith, small)
