-- Names that are the same, and not.
use Rattle.std.proofs.Common.{◌≡◌, ℕ, Bool, true, false, List, bytes_eq, refl, sym, ◌∙◌, ap}
use Rattle.std.proofs.lemmas.Slice.Eq.{bytes_eq-Decides}

pub name_itself : (x : List ℕ) → bytes_eq x x ≡ true
name_itself x = (bytes_eq-Decides x x).1 refl

pub same_name : (x y : List ℕ) → bytes_eq x y ≡ true → x ≡ y
same_name x y e = (bytes_eq-Decides x y).0 e

pub other_name : (x y : List ℕ) → bytes_eq x y ≡ false → bytes_eq y x ≡ false
other_name x y e = go (bytes_eq y x) refl
  where
    go : (b : Bool) → bytes_eq y x ≡ b → b ≡ false
    go true k = sym (ap (λ z. bytes_eq x z) (same_name y x k) ∙ name_itself x) ∙ e
    go false k = refl

-- a name that isn't y isn't x, where x is y
pub other_too : (x y z : List ℕ) → bytes_eq x y ≡ true → bytes_eq z y ≡ false → bytes_eq x z ≡ false
other_too x y z e k = other_name z x (ap (bytes_eq z) (same_name x y e) ∙ k)
