-- Products of integers over sums and products.
use Rattle.std.proofs.Common.{◌≡◌, ℕ, zero, suc, ℤ, pos, negsuc, ◌+ℤ◌, ◌-ℤ◌, ◌*ℤ◌, sym, ◌∙◌, ap, arith}
use Rattle.std.proofs.lemmas.Int.{ints}
use Rattle.std.proofs.Math.IntN.{+ℤ_idl, zero-*ℤ, suc_ℤ-+ℤ, pred_ℤ-+ℤ, suc_ℤ-*ℤ, pred_ℤ-*ℤ, *ℤ_comm, *ℤ-one, one}

-- one step of an induction over whole numbers, up or down
step_up : (whole before left x y c : ℤ) → whole ≡ before +ℤ c → before ≡ x +ℤ y → left ≡ x +ℤ c → whole ≡ left +ℤ y
step_up whole before left x y c e f g = omega (arith, ints)

step_down : (whole before left x y c : ℤ) → whole ≡ before -ℤ c → before ≡ x +ℤ y → left ≡ x -ℤ c → whole ≡ left +ℤ y
step_down whole before left x y c e f g = omega (arith, ints)

sum_at_zero : (b c : ℤ) → (pos 0 +ℤ b) *ℤ c ≡ pos 0 *ℤ c +ℤ b *ℤ c
sum_at_zero b c = ap (λ x. x *ℤ c) (+ℤ_idl b) ∙ sym (ap (λ x. x +ℤ b *ℤ c) (zero-*ℤ c) ∙ +ℤ_idl (b *ℤ c))

sum_up : (n : ℕ) (b c : ℤ) → (pos n +ℤ b) *ℤ c ≡ pos n *ℤ c +ℤ b *ℤ c
sum_up zero b c = sum_at_zero b c
sum_up (suc n) b c =
    let e = ap (λ x. x *ℤ c) (suc_ℤ-+ℤ (pos n) b) ∙ suc_ℤ-*ℤ (pos n +ℤ b) c in
    step_up ((pos (suc n) +ℤ b) *ℤ c) ((pos n +ℤ b) *ℤ c) (pos (suc n) *ℤ c) (pos n *ℤ c) (b *ℤ c) c e (sum_up n b c) (suc_ℤ-*ℤ (pos n) c)

sum_down : (n : ℕ) (b c : ℤ) → (negsuc n +ℤ b) *ℤ c ≡ negsuc n *ℤ c +ℤ b *ℤ c
sum_down zero b c =
    let e = ap (λ x. x *ℤ c) (pred_ℤ-+ℤ (pos 0) b) ∙ pred_ℤ-*ℤ (pos 0 +ℤ b) c in
    step_down ((negsuc 0 +ℤ b) *ℤ c) ((pos 0 +ℤ b) *ℤ c) (negsuc 0 *ℤ c) (pos 0 *ℤ c) (b *ℤ c) c e (sum_at_zero b c) (pred_ℤ-*ℤ (pos 0) c)
sum_down (suc n) b c =
    let e = ap (λ x. x *ℤ c) (pred_ℤ-+ℤ (negsuc n) b) ∙ pred_ℤ-*ℤ (negsuc n +ℤ b) c in
    step_down ((negsuc (suc n) +ℤ b) *ℤ c) ((negsuc n +ℤ b) *ℤ c) (negsuc (suc n) *ℤ c) (negsuc n *ℤ c) (b *ℤ c) c e (sum_down n b c) (pred_ℤ-*ℤ (negsuc n) c)

pub sum_times : (a b c : ℤ) → (a +ℤ b) *ℤ c ≡ a *ℤ c +ℤ b *ℤ c
sum_times (pos n) b c = sum_up n b c
sum_times (negsuc n) b c = sum_down n b c

pub times_sum : (a b c : ℤ) → a *ℤ (b +ℤ c) ≡ a *ℤ b +ℤ a *ℤ c
times_sum a b c = let e = *ℤ_comm a (b +ℤ c) in let f = sum_times b c a in let g = *ℤ_comm b a in let k = *ℤ_comm c a in omega (arith, ints, e, f, g, k)

difference_times : (a b c : ℤ) → (a -ℤ b) *ℤ c ≡ a *ℤ c -ℤ b *ℤ c
difference_times a b c =
    let d : (a -ℤ b) +ℤ b ≡ a = omega (arith, ints) in
    let e = sym (sum_times (a -ℤ b) b c) ∙ ap (λ x. x *ℤ c) d in
    omega (arith, ints, e)

product_at_zero : (b c : ℤ) → (pos 0 *ℤ b) *ℤ c ≡ pos 0 *ℤ (b *ℤ c)
product_at_zero b c = ap (λ x. x *ℤ c) (zero-*ℤ b) ∙ zero-*ℤ c ∙ sym (zero-*ℤ (b *ℤ c))

product_up : (n : ℕ) (b c : ℤ) → (pos n *ℤ b) *ℤ c ≡ pos n *ℤ (b *ℤ c)
product_up zero b c = product_at_zero b c
product_up (suc n) b c =
    let e = ap (λ x. x *ℤ c) (suc_ℤ-*ℤ (pos n) b) ∙ sum_times (pos n *ℤ b) b c in
    e ∙ ap (λ x. x +ℤ b *ℤ c) (product_up n b c) ∙ sym (suc_ℤ-*ℤ (pos n) (b *ℤ c))

product_down : (n : ℕ) (b c : ℤ) → (negsuc n *ℤ b) *ℤ c ≡ negsuc n *ℤ (b *ℤ c)
product_down zero b c =
    let e = ap (λ x. x *ℤ c) (pred_ℤ-*ℤ (pos 0) b) ∙ difference_times (pos 0 *ℤ b) b c in
    e ∙ ap (λ x. x -ℤ b *ℤ c) (product_at_zero b c) ∙ sym (pred_ℤ-*ℤ (pos 0) (b *ℤ c))
product_down (suc n) b c =
    let e = ap (λ x. x *ℤ c) (pred_ℤ-*ℤ (negsuc n) b) ∙ difference_times (negsuc n *ℤ b) b c in
    e ∙ ap (λ x. x -ℤ b *ℤ c) (product_down n b c) ∙ sym (pred_ℤ-*ℤ (negsuc n) (b *ℤ c))

pub product_times : (a b c : ℤ) → (a *ℤ b) *ℤ c ≡ a *ℤ (b *ℤ c)
product_times (pos n) b c = product_up n b c
product_times (negsuc n) b c = product_down n b c

pub times_one : (c : ℤ) → c *ℤ pos 1 ≡ c
unfolding one
times_one c = *ℤ-one c

pub one_times : (c : ℤ) → pos 1 *ℤ c ≡ c
one_times c = *ℤ_comm (pos 1) c ∙ times_one c
