-- Products by doubling, and what is left of a sum's turns.
use Rattle.std.proofs.Common.{◌≡◌, ℕ, zero, suc, ◌+◌, ◌*◌, ◌/◌, ◌%◌, ◌∙◌, ap, arith}
use Rattle.std.specs.Prelude.{ℤ, pos, ◌+ℤ◌, ◌*ℤ◌}
use Rattle.std.proofs.lemmas.Int.{ints}
use Rattle.std.proofs.Math.IntN.{zero-*ℤ, suc_ℤ-*ℤ}

-- ---- a natural number times an integer

grows : (n : ℕ) (c : ℤ) → pos (suc n) *ℤ c ≡ pos n *ℤ c +ℤ c
grows n c = suc_ℤ-*ℤ (pos n) c

pub twice : (n : ℕ) (c : ℤ) → pos n *ℤ (c +ℤ c) ≡ pos n *ℤ c +ℤ pos n *ℤ c
twice zero c = let a = zero-*ℤ (c +ℤ c) in let b = zero-*ℤ c in omega (arith, ints, a, b)
twice (suc n) c = let r = twice n c in let a = grows n (c +ℤ c) in let b = grows n c in omega (arith, ints, r, a, b)

pub sum_of_two : (m n : ℕ) (c : ℤ) → pos (m + n) *ℤ c ≡ pos m *ℤ c +ℤ pos n *ℤ c
sum_of_two zero n c = let a = zero-*ℤ c in let e : 0 + n ≡ n = omega arith in let f = ap (λ k. pos k *ℤ c) e in omega (arith, ints, a, f)
sum_of_two (suc m) n c =
    let r = sum_of_two m n c in
    let a = grows m c in
    let b = grows (m + n) c in
    let e : suc m + n ≡ suc (m + n) = omega arith in
    let f = ap (λ k. pos k *ℤ c) e in
    omega (arith, ints, r, a, b, f)

pub no_bit : (n : ℕ) (sum power : ℤ) → n ≡ 0 → sum ≡ sum +ℤ pos n *ℤ power
no_bit n sum power none = let f = ap (λ k. pos k *ℤ power) none in let z = zero-*ℤ power in omega (arith, ints, f, z)

pub one_bit : (n : ℕ) (sum power more : ℤ) → n ≡ 1 → more ≡ sum +ℤ power → more ≡ sum +ℤ pos n *ℤ power
one_bit n sum power more one e =
    let f = ap (λ k. pos k *ℤ power) one in
    let z = zero-*ℤ power in
    let g = grows 0 power in
    omega (arith, ints, e, f, z, g)

-- the last bit is taken, and the power doubled
pub halved : (rest : ℕ) (sum more power double whole : ℤ) → more ≡ sum +ℤ pos (rest % 2) *ℤ power → double ≡ power +ℤ power → sum +ℤ pos rest *ℤ power ≡ whole → more +ℤ pos (rest / 2) *ℤ double ≡ whole
halved rest sum more power double whole e d so =
    let q = rest / 2 in
    let r = rest % 2 in
    let cut : rest ≡ (q + q) + r = omega arith in
    let a = sum_of_two (q + q) r power in
    let b = sum_of_two q q power in
    let t = ap (λ x. pos q *ℤ x) d ∙ twice q power in
    let f = ap (λ k. pos k *ℤ power) cut in
    omega (arith, ints, e, so, a, b, t, f)

pub ended : (rest : ℕ) (sum power whole : ℤ) → rest ≡ 0 → sum +ℤ pos rest *ℤ power ≡ whole → sum ≡ whole
ended rest sum power whole none so = let f = ap (λ k. pos k *ℤ power) none in let z = zero-*ℤ power in omega (arith, ints, so, f, z)

-- ---- sums

pub turns_add : (low turn l t l' t' u v : ℤ) → low +ℤ turn *ℤ pos 340282366920938463463374607431768211456 ≡ l +ℤ l' → u ≡ t +ℤ t' → v ≡ u +ℤ turn →
    low +ℤ v *ℤ pos 340282366920938463463374607431768211456 ≡ (l +ℤ t *ℤ pos 340282366920938463463374607431768211456) +ℤ (l' +ℤ t' *ℤ pos 340282366920938463463374607431768211456)
turns_add low turn l t l' t' u v e f g = omega (arith, ints, e, f, g)
