-- Lists that pair off.
use Rattle.std.specs.Prelude.{List, [], ◌∷◌}

-- the first list is the second with this item put in somewhere
pub data Takes {A : Type 0} (x : A) : List A → List A → Type 0 where
  here : {xs : List A} → Takes x (x ∷ xs) xs
  there : {y : A} {xs ys : List A} → Takes x xs ys → Takes x (y ∷ xs) (y ∷ ys)

-- each item of the one list has a partner in the other, to which it is so related, and none is left
pub data PairsOff {A B : Type 0} (r : A → B → Type 0) : List A → List B → Type 0 where
  none_left : PairsOff r [] []
  one_pair : {x : A} {y : B} {xs : List A} {ys rest : List B} → r x y → Takes y ys rest → PairsOff r xs rest → PairsOff r (x ∷ xs) ys
