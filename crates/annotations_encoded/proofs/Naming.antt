-- One name more.
use Rattle.std.proofs.Common.{◌≡◌, ℕ, zero, suc, ◌==◌, if◌then◌else◌, List, [], ◌∷◌, ◌++◌, length, Some, slice_get, refl, sym, ap, ◌∙◌, subst, arith, inl, inr, ◌⊎◌}
use Rattle.std.proofs.lemmas.Bool.{eq-eqb, ne_eqb}
use Rattle.acsl_encode.specs.Readings.{Terms}
use Rattle.acsl_encode.specs.Encode.{Names, with_name}
use Rattle.acsl_well_typed.specs.WellTyped.{What}
use Rattle.acsl_well_typed.specs.WellTyped as typed
use Rattle.annotations_encoded.specs.Laws.{IsNamed, AreNamed}

pub one_longer : (ws : List What) (v : What) (d : ℕ) → length ws ≡ d → length (ws ++ v ∷ []) ≡ suc d
one_longer [] v d e = ap suc e
one_longer (w ∷ ws) v d e = ap suc (one_longer ws v (length ws) refl) ∙ ap suc e

last_or_before : (ws : List What) (v : What) (x : ℕ) (w : What) → slice_get (ws ++ v ∷ []) x ≡ Some w
    → ((x ≡ length ws) × (v ≡ w)) ⊎ ((x ≡ length ws → ⊥) × (slice_get ws x ≡ Some w))
last_or_before [] v zero w e = inl (refl, cc)
last_or_before [] v (suc x) w e = absurd cc
last_or_before (u ∷ ws) v zero w e = inr ((λ q. absurd (no_zero (length ws) q)), e)
  where
    no_zero : (n : ℕ) → 0 ≡ suc n → ⊥
    no_zero n q = omega (arith, q)
last_or_before (u ∷ ws) v (suc x) w e = by (last_or_before ws v x w e)
  where
    by : ((x ≡ length ws) × (v ≡ w)) ⊎ ((x ≡ length ws → ⊥) × (slice_get ws x ≡ Some w))
        → ((suc x ≡ suc (length ws)) × (v ≡ w)) ⊎ ((suc x ≡ suc (length ws) → ⊥) × (slice_get ws x ≡ Some w))
    by (inl h) = inl (ap suc h.0, h.1)
    by (inr h) = inr ((λ q. let r : x ≡ length ws = omega (arith, q) in h.0 r), h.1)

pub one_more_named : (ws : typed.Names) (ns : Names) (v : What) (t : Terms) (d : ℕ) → length ws ≡ d → IsNamed v t → AreNamed ws ns
    → AreNamed (ws ++ v ∷ []) (with_name d t ns)
one_more_named ws ns v t d eq h n x w e = by (last_or_before ws v x w e)
  where
    by : ((x ≡ length ws) × (v ≡ w)) ⊎ ((x ≡ length ws → ⊥) × (slice_get ws x ≡ Some w)) → IsNamed w (if x == d then t else ns x)
    by (inl q) = subst (λ b. IsNamed w (if b then t else ns x)) (sym (eq-eqb x d (q.0 ∙ eq))) (subst (λ w. IsNamed w t) q.1 h)
    by (inr q) = subst (λ b. IsNamed w (if b then t else ns x)) (sym (ne_eqb x d (λ same. q.0 (same ∙ sym eq)))) (n x w q.1)
