-- Tests on names, and formulas that are true together.
use Rattle.std.proofs.Common.{◌≡◌, ℕ, Bool, true, false, ◌&&◌, ◌||◌, List, [], ◌∷◌, ◌++◌, bytes_eq, refl, sym, ◌∙◌, ap}
use Rattle.std.proofs.lemmas.Slice.Eq.{bytes_eq-Decides}

pub and_left : (p q : Bool) → (p && q) ≡ true → p ≡ true
and_left true q k = refl
and_left false q k = k

pub and_right : (p q : Bool) → (p && q) ≡ true → q ≡ true
and_right true q k = k
and_right false q k = absurd cc

pub or_left : (p q : Bool) → (p || q) ≡ false → p ≡ false
or_left true q k = absurd cc
or_left false q k = refl

pub or_right : (p q : Bool) → (p || q) ≡ false → q ≡ false
or_right true q k = absurd cc
or_right false q k = k

pub or_rest : (p q : Bool) → p ≡ false → (p || q) ≡ true → q ≡ true
or_rest true q k e = absurd cc
or_rest false q k e = e

-- neither of two
pub neither : (p q : Bool) → p ≡ false → q ≡ false → (p || q) ≡ false
neither true q k l = absurd cc
neither false q k l = l

pub not_true : (p : Bool) → p ≡ true → p ≡ false → ⊥
not_true true e f = absurd cc
not_true false e f = absurd cc

-- ---- names

pub same_name : (x y : List ℕ) → bytes_eq x y ≡ true → x ≡ y
same_name x y e = (bytes_eq-Decides x y).0 e

pub itself : (x : List ℕ) → bytes_eq x x ≡ true
itself x = (bytes_eq-Decides x x).1 refl

pub other_way : (x y : List ℕ) → bytes_eq x y ≡ false → bytes_eq y x ≡ false
other_way x y e = go (bytes_eq y x) refl
  where
    go : (b : Bool) → bytes_eq y x ≡ b → b ≡ false
    go true k = sym (ap (bytes_eq x) (same_name y x k) ∙ itself x) ∙ e
    go false k = refl
