-- Products of numbers by sign and size, where they fit 128 bits.
use Rattle.std.proofs.Common.{◌≡◌, ℕ, zero, suc, ◌^◌, ◌<◌, ◌≤◌, true, false, cond, ℤ, pos, negsuc, ◌-ℤ◌, ◌*ℤ◌, unsigned_abs, sym, ◌∙◌, ap, subst, arith, FitsSigned}
use Rattle.std.proofs.lemmas.Int.{ints}
use Rattle.std.specs.Prelude.{Some, None}
use Rattle.std.specs.Int.{w128}
use Rattle.qed_linear.specs.Linear.{fitted}
use Rattle.qed_linear.specs.View.{sized}
use Rattle.qed_linear.proofs.SumSteps.{fits_from, unfit}

-- ---- the number

pub fitted_from : (z : ℤ) → FitsSigned w128 z → Some z ≡ fitted z
fitted_from z f = sym (ap (λ b. cond b (Some z) None) (fits_from z f))

pub unfitted : (z : ℤ) → (FitsSigned w128 z → ⊥) → None ≡ fitted z
unfitted z f = sym (ap (λ b. cond b (Some z) None) (unfit z f))

pub beyond_unfitted : (z : ℤ) → 2 ^ 128 ≤ unsigned_abs z → None ≡ fitted z
beyond_unfitted z k = unfitted z (go z k)
  where
    go : (z : ℤ) → 2 ^ 128 ≤ unsigned_abs z → FitsSigned w128 z → ⊥
    go (pos n) k f = let l = f.sfits in omega (arith, k, l)
    go (negsuc n) k f = let l = f.sfits in omega (arith, k, l)

pub small_positive : (s : ℕ) → s < 2 ^ 127 → Some (pos s) ≡ fitted (sized false s)
small_positive s k = fitted_from (pos s) (record { sfits = k })

less_is : (n : ℕ) → pos 0 -ℤ pos (suc n) ≡ negsuc n
less_is n = omega (arith, ints)

below_fits : (n : ℕ) → n < 2 ^ 127 → FitsSigned w128 (negsuc n)
below_fits n k = record { sfits = k }

pub negative_fits : (s : ℕ) → s < 2 ^ 127 → FitsSigned w128 (pos 0 -ℤ pos s)
negative_fits zero k = record { sfits = omega arith }
negative_fits (suc n) k = subst (FitsSigned w128) (sym (less_is n)) (below_fits n (omega (arith, k)))

opposite : (z : ℤ) → pos 0 -ℤ z ≡ negsuc 0 *ℤ z
opposite z = omega (arith, ints)

pub small_negative : (s : ℕ) → s < 2 ^ 127 → Some (pos 0 -ℤ pos s) ≡ fitted (sized true s)
small_negative s k = fitted_from (pos 0 -ℤ pos s) (negative_fits s k) ∙ ap fitted (opposite (pos s))

pub least_negative : (s : ℕ) → s ≡ 2 ^ 127 → Some (negsuc 170141183460469231731687303715884105727) ≡ fitted (sized true s)
least_negative s k =
    let e : pos 0 -ℤ pos s ≡ negsuc 170141183460469231731687303715884105727 = omega (arith, ints, k) in
    fitted_from (negsuc 170141183460469231731687303715884105727) (record { sfits = omega arith }) ∙ ap fitted (sym e ∙ opposite (pos s))

pub large_positive : (s : ℕ) → (s < 2 ^ 127 → ⊥) → None ≡ fitted (sized false s)
large_positive s n = unfitted (pos s) (λ f. let l = f.sfits in n (omega (arith, l)))

pub large_negative : (s : ℕ) → (s < 2 ^ 127 → ⊥) → (s ≡ 2 ^ 127 → ⊥) → None ≡ fitted (sized true s)
large_negative s n k = unfitted (pos 0 -ℤ pos s) (go s n k) ∙ ap fitted (opposite (pos s))
  where
    go : (s : ℕ) → (s < 2 ^ 127 → ⊥) → (s ≡ 2 ^ 127 → ⊥) → FitsSigned w128 (pos 0 -ℤ pos s) → ⊥
    go zero n k f = n (omega arith)
    go (suc m) n k f = let l = below m (subst (FitsSigned w128) (less_is m) f) in k (omega (arith, l, low_or m n))
      where
        below : (m : ℕ) → FitsSigned w128 (negsuc m) → m < 2 ^ 127
        below m g = g.sfits

        low_or : (m : ℕ) → (suc m < 2 ^ 127 → ⊥) → 2 ^ 127 ≤ suc m
        low_or m n = omega (arith, n)
