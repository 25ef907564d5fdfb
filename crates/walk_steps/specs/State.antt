-- A state: one list of integers, a slot each, of the same length all through a function.
use Rattle.std.specs.Prelude.{◌≡◌, ◌⊎◌, ℕ, zero, suc, ℤ, List, [], ◌∷◌, Bool, true, false}

abbrev pub State : Type 0
State = List ℤ

-- the item at a place, or this one
abbrev pub at_or : {X : Type 0} → X → List X → ℕ → X
at_or x [] i = x
at_or x (y ∷ ys) zero = y
at_or x (y ∷ ys) (suc i) = at_or x ys i

-- a list with another item at a place
abbrev pub put : {X : Type 0} → List X → ℕ → X → List X
put [] i y = []
put (x ∷ xs) zero y = y ∷ xs
put (x ∷ xs) (suc i) y = x ∷ put xs i y

-- the items at these places are those of the old list, or this one where it has none
abbrev pub restore : {X : Type 0} → X → List ℕ → (old new : List X) → List X
restore x [] old new = new
restore x (i ∷ is) old new = restore x is old (put new i (at_or x old i))

-- ---- lists of tests

abbrev pub AllTrue : List Bool → Type 0
AllTrue [] = Unit {0}
AllTrue (b ∷ bs) = (b ≡ true) × AllTrue bs

-- the first false one has this number, where they are numbered from n
abbrev pub FirstFalse : (n : ℕ) → List Bool → (i : ℕ) → Type 0
FirstFalse n [] i = ⊥
FirstFalse n (b ∷ bs) i = ((b ≡ false) × (n ≡ i)) ⊎ ((b ≡ true) × FirstFalse (suc n) bs i)

abbrev pub In : {X : Type 0} → X → List X → Type 0
In x [] = ⊥
In x (y ∷ ys) = (x ≡ y) ⊎ In x ys
