-- Look-ups of forms in a table.
use Rattle.std.proofs.Common.{◌≡◌, ◌≢◌, ◌⊎◌, ℕ, Bool, true, false, List, refl, sym, ◌∙◌, ap, subst, inl, inr}
use Rattle.std.specs.Prelude.{ℤ, Option, Some, None}
use Rattle.std.specs.Map.{KeepsOthers, lookup}
use Rattle.std.specs.declared.vec.Vec.{Vec}
use Rattle.linear_chains.specs.Links.{Form}
use Rattle.linear_chains.specs.Tables.{place_in}
use Rattle.linear_chains.specs.View.{same_form}
use Rattle.linear_chains.proofs.Equality.{form_is, told}

module _ {Z : Type 0} (key : Vec (ℕ × ℤ) Z) (form : Form) (is : key.items ≡ form) (old new : List (Vec (ℕ × ℤ) Z × ℕ)) where
  pub found_there : (place : ℕ) → lookup (λ v. same_form (key.items) (v.items)) new ≡ Some place → place_in new form ≡ Some place
  found_there place e = subst (λ f. place_in new f ≡ Some place) is e

  pub others_stay : KeepsOthers (λ x y. same_form (x.items) (y.items)) (λ v. same_form (key.items) (v.items)) old new → (f : Form) → (f ≡ form) ⊎ (place_in new f ≡ place_in old f)
  unfolding KeepsOthers
  others_stay keeps f = elim (told f form) [
    | inl e ↦ inl e
    | inr n ↦ inr (keeps (λ v. same_form f (v.items)) (λ x y e. ap (λ g. same_form g (y.items)) (form_is f (x.items) e)) (λ v e. apart v e n))
  ]
    where
      apart : (v : Vec (ℕ × ℤ) Z) → same_form (key.items) (v.items) ≡ true → (f ≡ form → ⊥) → same_form f (v.items) ≡ false
      apart v e n = go (same_form f (v.items)) refl
        where
          go : (b : Bool) → same_form f (v.items) ≡ b → b ≡ false
          go true h = absurd (n (form_is f (v.items) h ∙ sym (form_is (key.items) (v.items) e) ∙ is))
          go false h = refl
