-- Weights: their totals, and what they begin with.
use Rattle.std.proofs.Common.{◌≡◌, ℕ, zero, suc, ◌+◌, ◌<◌, ◌≤◌, List, [], ◌∷◌, ◌++◌, length, drop, get_or, refl, sym, ap, ◌∙◌}
use Rattle.std.proofs.Math.Numerals.{suc-eq-add-one}
use Rattle.std.proofs.lemmas.List.{at_drop_more, at_drop_all}
use Rattle.acsl_names.specs.Counting.{plus, total_from, zeros}

pub total_turn : (ks : List ℕ) (i k n n' whole : ℕ) → i < length ks → k ≡ get_or ks i k → n' ≡ plus n k → total_from n (drop i ks) ≡ whole → total_from n' (drop (i + 1) ks) ≡ whole
total_turn ks i k n n' whole inside is made so_far =
    ap (λ m. total_from m (drop (i + 1) ks)) made
    ∙ sym (at_drop_more (total_from n) ks i k inside ∙ ap (λ l. total_from n (l ∷ drop (i + 1) ks)) (sym is)) ∙ so_far

pub total_done : (ks : List ℕ) (i n whole : ℕ) → length ks ≤ i → total_from n (drop i ks) ≡ whole → n ≡ whole
total_done ks i n whole all so_far = sym (at_drop_all (total_from n) ks i all) ∙ so_far

pub ruleset total_laws = (total_turn, total_done)

pub zeros_more : (n : ℕ) → zeros n ++ 0 ∷ [] ≡ zeros (suc n)
zeros_more zero = refl
zeros_more (suc n) = ap (λ ks. 0 ∷ ks) (zeros_more n)

pub zeros_turn : (n : ℕ) (ks ks' : List ℕ) → ks ≡ zeros n → ks' ≡ ks ++ 0 ∷ [] → ks' ≡ zeros (n + 1)
zeros_turn n ks ks' is made = made ∙ ap (λ l. l ++ 0 ∷ []) is ∙ zeros_more n ∙ ap zeros (suc-eq-add-one n)

pub ruleset zeros_laws = (zeros_turn)
