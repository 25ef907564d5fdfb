-- The test of two parts, and of two keys, tells whether they are one.
use Rattle.std.proofs.Common.{◌≡◌, ◌⊎◌, ℕ, ◌==◌, ◌&&◌, Bool, true, false, List, [], ◌∷◌, refl, sym, ◌∙◌, ap, inl, inr, arith}
use Rattle.std.specs.Ordering.{int_eq}
use Rattle.std.specs.Cmp.{signed_Decides}
use Rattle.same_places.specs.Same.{Part}
use Rattle.same_places.specs.Passing.{same_part, one_if}
use Rattle.same_places.specs.View.{same_key}

first : (a b : Bool) → (a && b) ≡ true → a ≡ true
first true b e = refl
first false b e = absurd cc

second : (a b : Bool) → (a && b) ≡ true → b ≡ true
second true b e = e
second false b e = absurd cc

both : (a b : Bool) → a ≡ true → b ≡ true → (a && b) ≡ true
both true b e f = f
both false b e f = absurd cc

number_is : (a b : ℕ) → (a == b) ≡ true → a ≡ b
number_is a b e = grind (arith, e)

number_self : (a : ℕ) → (a == a) ≡ true
number_self a = grind arith

pub part_is : (p q : Part) → same_part p q ≡ true → p ≡ q
part_is (a, x) (b, y) e =
    let d = number_is a b (first (a == b) (int_eq x y) e) in
    let f = (signed_Decides x y).0 (second (a == b) (int_eq x y) e) in
    λ i. (d i, f i)

pub part_self : (p : Part) → same_part p p ≡ true
part_self (a, x) = both (a == a) (int_eq x x) (number_self a) ((signed_Decides x x).1 refl)

pub one_self : (p : Part) → one_if p p ≡ 1
one_self p = rw (part_self p) refl

-- a part is this one, or counts nothing
pub one_or_none : (p q : Part) → (p ≡ q) ⊎ (one_if p q ≡ 0)
one_or_none p q = go (same_part p q) refl
  where
    go : (b : Bool) → same_part p q ≡ b → (p ≡ q) ⊎ (one_if p q ≡ 0)
    go true e = inl (part_is p q e)
    go false e = inr (rw e refl)

pub key_is : (f g : List Part) → same_key f g ≡ true → f ≡ g
key_is [] [] e = refl
key_is [] (q ∷ g) e = absurd cc
key_is (p ∷ f) [] e = absurd cc
key_is (p ∷ f) (q ∷ g) e =
    let d = part_is p q (first (same_part p q) (same_key f g) e) in
    let h = key_is f g (second (same_part p q) (same_key f g) e) in
    λ i. d i ∷ h i

key_self : (f : List Part) → same_key f f ≡ true
key_self [] = refl
key_self (p ∷ f) = both (same_part p p) (same_key f f) (part_self p) (key_self f)

pub key_isnt : (f g : List Part) → same_key f g ≡ false → f ≡ g → ⊥
key_isnt f g e h = let t : same_key f g ≡ true = ap (same_key f) (sym h) ∙ key_self f in absurd cc

pub key_told : (f g : List Part) → (f ≡ g) ⊎ (f ≡ g → ⊥)
key_told f g = go (same_key f g) refl
  where
    go : (b : Bool) → same_key f g ≡ b → (f ≡ g) ⊎ (f ≡ g → ⊥)
    go true e = inl (key_is f g e)
    go false e = inr (key_isnt f g e)
