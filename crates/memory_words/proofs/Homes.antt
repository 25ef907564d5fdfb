-- Where variables of the file stand that no pointer leads to: negative numbers, one for each.
use Rattle.std.proofs.Common.{◌≡◌, ℕ, zero, suc, ◌+◌, ◌<◌, ◌≤◌, negsuc, true, List, [], ◌∷◌, Option, Some, slice_get, refl, sym, ap, ◌∙◌, arith}
use Rattle.std.specs.Option.{unwrap_or}
use Rattle.typed_memories.proofs.Tests.{on_test, chosen, unchosen}
use Rattle.c_runs.specs.Program.{Variable, Facts}
use Rattle.c_runs.specs.States.{home_from, global_home, count_plain, plain_globals}
use Rattle.std.proofs.lemmas.Option.{none-some}

negative_parts : {i j : ℕ} → negsuc i ≡ negsuc j → i ≡ j
negative_parts e = cc

abbrev HiddenFrom : (n k : ℕ) → List Variable → ℕ → Type 0
HiddenFrom n k xs x = (i : ℕ) × (home_from n k xs x ≡ negsuc i) × (k ≤ i) × (i < k + count_plain xs)

hidden_from : (n k : ℕ) (xs : List Variable) (x : ℕ) (v : Variable) → slice_get xs x ≡ Some v → v.is_plain ≡ true → HiddenFrom n k xs x
hidden_from n k [] x v e is = absurd (none-some v e)
hidden_from n k (y ∷ xs) zero v e is =
    let plain : y.is_plain ≡ true = ap (λ (o : Option Variable). (unwrap_or o v).is_plain) e ∙ is in
    let more : count_plain (y ∷ xs) ≡ suc (count_plain xs) = chosen y.is_plain _ _ plain in
    (k, chosen y.is_plain _ _ plain, omega arith, omega (arith, more))
hidden_from n k (y ∷ xs) (suc x) v e is =
    on_test y.is_plain
    (λ t. let r = hidden_from n (suc k) xs x v e is in
    let more : count_plain (y ∷ xs) ≡ suc (count_plain xs) = chosen y.is_plain _ _ t in
    let above = r.2 in
    let below = r.3 in
    (r.0, chosen y.is_plain _ _ t ∙ r.1, omega (arith, above), omega (arith, more, below)))
    (λ t. let r = hidden_from (suc n) k xs x v e is in
    let more : count_plain (y ∷ xs) ≡ count_plain xs = unchosen y.is_plain _ _ t in
    let below = r.3 in
    (r.0, unchosen y.is_plain _ _ t ∙ r.1, r.2, omega (arith, more, below)))

-- the first one and one behind it
apart : (n k : ℕ) (y : Variable) (xs : List Variable) (x : ℕ) (v : Variable) → y.is_plain ≡ true → slice_get xs x ≡ Some v → v.is_plain ≡ true
    → home_from n k (y ∷ xs) zero ≡ home_from n k (y ∷ xs) (suc x) → ⊥
apart n k y xs x v first e is same =
    let r = hidden_from n (suc k) xs x v e is in
    let number : k ≡ r.0 = negative_parts (sym (chosen y.is_plain _ _ first) ∙ same ∙ chosen y.is_plain _ _ first ∙ r.1) in
    let above = r.2 in
    omega (arith, number, above)

same_from : (n k : ℕ) (xs : List Variable) (x y : ℕ) (v w : Variable) → slice_get xs x ≡ Some v → v.is_plain ≡ true → slice_get xs y ≡ Some w → w.is_plain ≡ true
    → home_from n k xs x ≡ home_from n k xs y → x ≡ y
same_from n k [] x y v w e is d js same = absurd (none-some v e)
same_from n k (a ∷ xs) zero zero v w e is d js same = refl
same_from n k (a ∷ xs) zero (suc y) v w e is d js same = absurd (apart n k a xs y w (ap (λ (o : Option Variable). (unwrap_or o v).is_plain) e ∙ is) d js same)
same_from n k (a ∷ xs) (suc x) zero v w e is d js same = absurd (apart n k a xs x v (ap (λ (o : Option Variable). (unwrap_or o w).is_plain) d ∙ js) e is (sym same))
same_from n k (a ∷ xs) (suc x) (suc y) v w e is d js same =
    on_test a.is_plain
    (λ t. ap suc (same_from n (suc k) xs x y v w e is d js (sym (chosen a.is_plain _ _ t) ∙ same ∙ chosen a.is_plain _ _ t)))
    (λ t. ap suc (same_from (suc n) k xs x y v w e is d js (sym (unchosen a.is_plain _ _ t) ∙ same ∙ unchosen a.is_plain _ _ t)))

module _ (p : Facts) (x : ℕ) (v : Variable) (e : slice_get p.globals x ≡ Some v) (plain : v.is_plain ≡ true) where
  pub hidden_number : (i : ℕ) × (global_home p x ≡ negsuc i) × (i < plain_globals p)
  hidden_number = let r = hidden_from 0 0 p.globals x v e plain in let below = r.3 in (r.0, r.1, omega (arith, below))

  pub same_hidden : (y : ℕ) (w : Variable) → slice_get p.globals y ≡ Some w → w.is_plain ≡ true → global_home p x ≡ global_home p y → x ≡ y
  same_hidden y w d js same = same_from 0 0 p.globals x y v w e plain d js same
