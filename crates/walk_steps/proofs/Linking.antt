-- What equalities of fresh names say.
use Rattle.std.proofs.Common.{◌≡◌, ℕ, zero, suc, ℤ, pos, negsuc, ◌-ℤ◌, Bool, true, false, not, List, [], ◌∷◌, length, Option, Some, None, refl, sym, ap, ap₂, ◌∙◌, arith}
use Rattle.std.proofs.lemmas.Bool.{false≢true}
use Rattle.std.proofs.lemmas.Int.{ints}
use Rattle.qed_terms.specs.Tree.{Tree}
use Rattle.qed_terms.specs.Operators.{is_zero, is_equal}
use Rattle.qed_terms.specs.Order.{same}
use Rattle.qed_terms.proofs.Total.{same_exact}
use Rattle.qed_terms.specs.Fresh.{Used}
use Rattle.qed_terms.specs.Meaning as sense
use Rattle.qed_terms.specs.Meaning.{Values, value, truth}
use Rattle.walk_steps.specs.Forms.{Slots, state_of}
use Rattle.walk_steps.specs.World.{pick, after_pick, or_own, chosen}
use Rattle.walk_steps.specs.Join.{picks, links}
use Rattle.walk_steps.proofs.Lists.{cons_parts}
use Rattle.walk_steps.proofs.Asking.{Holds}
use Rattle.walk_steps.proofs.Picks.{AreNext, is_next, Newest, SameNames}

is_zero-pos : (z : ℤ) → is_zero z ≡ true → z ≡ pos 0
is_zero-pos (pos zero) h = refl
is_zero-pos (pos (suc n)) h = absurd (false≢true h)
is_zero-pos (negsuc n) h = absurd (false≢true h)

pub equal_same : (a b : ℤ) → is_equal a b ≡ true → a ≡ b
equal_same a b h = let none = is_zero-pos (a -ℤ b) h in omega (arith, ints, none)

pub same_equal : (a b : ℤ) → a ≡ b → is_equal a b ≡ true
same_equal a b e = let none : a -ℤ b ≡ pos 0 = omega (arith, ints, e) in ap is_zero none

module _ (m : sense.World) where
  pub links_decode : (env : Values) (ps : List (Option Tree)) (ts : Slots) → Holds m env (links ps ts) → state_of m env (chosen ps ts) ≡ state_of m env ts
  links_decode env [] ts h = refl
  links_decode env (p ∷ ps) [] h = refl
  links_decode env (None ∷ ps) (t ∷ ts) h = ap (λ zs. value m env t ∷ zs) (links_decode env ps ts h)
  links_decode env (Some x ∷ ps) (t ∷ ts) h = ap₂ (λ z zs. z ∷ zs) (equal_same (value m env x) (value m env t) h.0) (links_decode env ps ts h.1)

  pub links_hold : (env : Values) (ps : List (Option Tree)) (ts : Slots) → Newest m env ps (state_of m env ts) → Holds m env (links ps ts)
  links_hold env [] ts n = tt
  links_hold env (p ∷ ps) [] n = tt
  links_hold env (None ∷ ps) (t ∷ ts) n = links_hold env ps ts n
  links_hold env (Some x ∷ ps) (t ∷ ts) n = (same_equal (value m env x) (value m env t) n.0, links_hold env ps ts n.1)

  pub links_settled : (env env' : Values) (ps : List (Option Tree)) (ts : Slots) → SameNames m env env' ps → state_of m env ts ≡ state_of m env' ts → Holds m env (links ps ts) → Holds m env' (links ps ts)
  links_settled env env' [] ts s e h = tt
  links_settled env env' (p ∷ ps) [] s e h = tt
  links_settled env env' (None ∷ ps) (t ∷ ts) s e h = links_settled env env' ps ts s (cons_parts e).1 h
  links_settled env env' (Some x ∷ ps) (t ∷ ts) s e h =
      let q : is_equal (value m env x) (value m env t) ≡ is_equal (value m env' x) (value m env' t) = ap₂ (λ x y. is_equal x y) s.0 (cons_parts e).0 in
      (sym q ∙ h.0, links_settled env env' ps ts s.1 (cons_parts e).1 h.1)

-- ---- the names of a join

pub picks_next : (bases : List (List ℕ)) (c : Used) (ts us : Slots) → AreNext bases c (picks bases c ts us)
picks_next [] c ts us = tt
picks_next (b ∷ bases) c [] us = tt
picks_next (b ∷ bases) c (t ∷ ts) [] = tt
picks_next (b ∷ bases) c (t ∷ ts) (u ∷ us) = let x = not (same t u) in (is_next c b x, picks_next bases (after_pick c b (pick c b x)) ts us)

own_same : (c : Used) (b : List ℕ) (t u : Tree) (x : Bool) → same t u ≡ x → or_own (pick c b (not x)) t ≡ or_own (pick c b (not x)) u
own_same c b t u true e = same_exact t u e
own_same c b t u false e = refl

-- both sides choose the same slots
pub chosen_same : (bases : List (List ℕ)) (c : Used) (ts us : Slots) → length ts ≡ length bases → length us ≡ length bases → chosen (picks bases c ts us) ts ≡ chosen (picks bases c ts us) us
chosen_same [] c [] [] h k = refl
chosen_same [] c [] (u ∷ us) h k = absurd cc
chosen_same [] c (t ∷ ts) us h k = absurd cc
chosen_same (b ∷ bases) c [] us h k = absurd cc
chosen_same (b ∷ bases) c (t ∷ ts) [] h k = absurd cc
chosen_same (b ∷ bases) c (t ∷ ts) (u ∷ us) h k =
    ap₂ (λ x xs. x ∷ xs) (own_same c b t u (same t u) refl) (chosen_same bases (after_pick c b (pick c b (not (same t u)))) ts us (cc) (cc))
