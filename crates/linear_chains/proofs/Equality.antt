-- The test of two forms tells whether they are one.
use Rattle.std.proofs.Common.{◌≡◌, ◌⊎◌, ℕ, ◌==◌, ◌&&◌, Bool, true, false, List, [], ◌∷◌, refl, sym, ◌∙◌, ap, inl, inr, arith}
use Rattle.std.specs.Prelude.{ℤ, nat_eq}
use Rattle.std.specs.Ordering.{int_eq}
use Rattle.std.specs.Cmp.{signed_Decides}
use Rattle.linear_chains.specs.Links.{Form}
use Rattle.linear_chains.specs.View.{same_part, same_form}

left : (a b : Bool) → (a && b) ≡ true → a ≡ true
left true b e = refl
left false b e = absurd cc

right : (a b : Bool) → (a && b) ≡ true → b ≡ true
right true b e = e
right false b e = absurd cc

both : (a b : Bool) → a ≡ true → b ≡ true → (a && b) ≡ true
both true b e f = f
both false b e f = absurd cc

number_is : (a b : ℕ) → (a == b) ≡ true → a ≡ b
number_is a b e = grind (arith, e)

number_self : (a : ℕ) → (a == a) ≡ true
number_self a = grind arith

part_is : (p q : ℕ × ℤ) → same_part p q ≡ true → p ≡ q
part_is (a, x) (b, y) e =
    let d = number_is a b (left (a == b) (int_eq x y) e) in
    let f = (signed_Decides x y).0 (right (a == b) (int_eq x y) e) in
    λ i. (d i, f i)

part_self : (p : ℕ × ℤ) → same_part p p ≡ true
part_self (a, x) = both (a == a) (int_eq x x) (number_self a) ((signed_Decides x x).1 refl)

pub form_is : (f g : Form) → same_form f g ≡ true → f ≡ g
form_is [] [] e = refl
form_is [] (q ∷ g) e = absurd cc
form_is (p ∷ f) [] e = absurd cc
form_is (p ∷ f) (q ∷ g) e =
    let d = part_is p q (left (same_part p q) (same_form f g) e) in
    let h = form_is f g (right (same_part p q) (same_form f g) e) in
    λ i. d i ∷ h i

pub form_self : (f : Form) → same_form f f ≡ true
form_self [] = refl
form_self (p ∷ f) = both (same_part p p) (same_form f f) (part_self p) (form_self f)

pub form_isnt : (f g : Form) → same_form f g ≡ false → f ≡ g → ⊥
form_isnt f g e h = let t : same_form f g ≡ true = ap (same_form f) (sym h) ∙ form_self f in absurd cc

pub told : (f g : Form) → (f ≡ g) ⊎ (f ≡ g → ⊥)
told f g = go (same_form f g) refl
  where
    go : (b : Bool) → same_form f g ≡ b → (f ≡ g) ⊎ (f ≡ g → ⊥)
    go true e = inl (form_is f g e)
    go false e = inr (form_isnt f g e)
