-- Look-ups of keys in a table.
use Rattle.std.proofs.Common.{◌≡◌, ◌⊎◌, ℕ, Bool, true, false, List, refl, sym, ◌∙◌, ap, inl, inr}
use Rattle.std.specs.Prelude.{ℤ}
use Rattle.std.specs.Map.{KeepsOthers}
use Rattle.std.specs.declared.vec.Vec.{Vec}
use Rattle.same_places.specs.Same.{Part}
use Rattle.same_places.specs.View.{same_key, place_in}
use Rattle.same_places.proofs.Parts.{key_is, key_told}

module _ {Z : Type 0} (key : Vec (ℕ × ℤ) Z) (old new : List (Vec (ℕ × ℤ) Z × ℕ)) where
  pub others_stay : KeepsOthers (λ x y. same_key (x.items) (y.items)) (λ v. same_key (key.items) (v.items)) old new → (f : List Part) → (f ≡ key.items) ⊎ (place_in new f ≡ place_in old f)
  unfolding KeepsOthers
  others_stay keeps f = elim (key_told f (key.items)) [
    | inl e ↦ inl e
    | inr n ↦ inr (keeps (λ v. same_key f (v.items)) (λ x y e. ap (λ g. same_key g (y.items)) (key_is f (x.items) e)) (λ v e. apart v e n))
  ]
    where
      apart : (v : Vec (ℕ × ℤ) Z) → same_key (key.items) (v.items) ≡ true → (f ≡ key.items → ⊥) → same_key f (v.items) ≡ false
      apart v e n = go (same_key f (v.items)) refl
        where
          go : (b : Bool) → same_key f (v.items) ≡ b → b ≡ false
          go true h = absurd (n (key_is f (v.items) h ∙ sym (key_is (key.items) (v.items) e)))
          go false h = refl
