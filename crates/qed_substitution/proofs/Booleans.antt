-- Small facts on truth values.
use Rattle.std.proofs.Common.{◌≡◌, Bool, true, false, ◌&&◌, ◌||◌, refl}

pub and_left : (p q : Bool) → p && q ≡ true → p ≡ true
and_left true q k = refl
and_left false q k = k

pub and_right : (p q : Bool) → p && q ≡ true → q ≡ true
and_right true q k = k
and_right false q k = absurd cc

pub or_left : (p q : Bool) → p || q ≡ false → p ≡ false
or_left true q k = absurd cc
or_left false q k = refl

pub or_right : (p q : Bool) → p || q ≡ false → q ≡ false
or_right true q k = absurd cc
or_right false q k = k

pub or_assoc : (a b c : Bool) → (a || b) || c ≡ a || (b || c)
or_assoc true b c = refl
or_assoc false b c = refl

pub or_unit : (a : Bool) → a || false ≡ a
or_unit true = refl
or_unit false = refl
