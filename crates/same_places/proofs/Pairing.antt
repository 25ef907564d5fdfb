-- Lists that pair off: one after the other, and item by item.
use Rattle.std.proofs.Common.{List, ◌∷◌, map, arith}
use Rattle.std.specs.Prelude.{All}
use Rattle.std.proofs.lemmas.List.Elements.{All-cons, All-tail}
use Rattle.same_places.specs.Pairing.{Takes, here, there, PairsOff, none_left, one_pair}

-- two items taken one after the other may be taken the other way round
pub take_swap : {A : Type 0} {x y : A} {xs ys zs : List A} → Takes x xs ys → Takes y ys zs → (ws : List A) × Takes y xs ws × Takes x ws zs
take_swap {x = x} {zs = zs} here t = (x ∷ zs, there t, here)
take_swap (there {ys = ys} s) here = (_, here, s)
take_swap (there {y = w} s) (there t) = let r = take_swap s t in (w ∷ r.0, there r.1, there r.2)

pub take_mapped : {A B : Type 0} (f : A → B) {x : A} {xs ys : List A} → Takes x xs ys → Takes (f x) (map f xs) (map f ys)
take_mapped f here = here
take_mapped f (there t) = there (take_mapped f t)

module _ {A B : Type 0} where
  pub off_map : {r s : A → B → Type 0} → ((x : A) (y : B) → r x y → s x y) → {xs : List A} {ys : List B} → PairsOff r xs ys → PairsOff s xs ys
  off_map f none_left = none_left
  off_map f (one_pair {x} {y} h t p) = one_pair (f x y h) t (off_map f p)

  -- the partner of an item, wherever it stands
  pub off_take : {r : A → B → Type 0} {x : A} {xs xs' : List A} {ys : List B} → PairsOff r xs ys → Takes x xs xs' → (y : B) × (ys' : List B) × Takes y ys ys' × r x y × PairsOff r xs' ys'
  off_take {r = r} none_left s = elim s [ ]
  off_take (one_pair {y = y} {rest = rest} h t p) here = (y, rest, t, h, p)
  off_take (one_pair h t p) (there s) =
      let o = off_take p s in
      let w = take_swap t o.2 in (o.0, w.0, w.1, o.3, one_pair h w.2 o.4)

pub off_through : {A B C : Type 0} {r : A → B → Type 0} {s : B → C → Type 0} {xs : List A} {ys : List B} {zs : List C} → PairsOff r xs ys → PairsOff s ys zs → PairsOff (λ x z. (y : B) × r x y × s y z) xs zs
off_through none_left none_left = none_left
off_through (one_pair {y = y} h t p) q = let o = off_take q t in one_pair (y, h, o.3) o.2 (off_through p o.4)

pub take_all : {A : Type 0} (P : A → Type 0) {x : A} {xs ys : List A} → All P xs → Takes x xs ys → P x × All P ys
take_all P {x} all (here {xs}) = (all 0 x (omega arith), All-tail P x xs all)
take_all P all (there {y} {xs} {ys} t) =
    let r = take_all P (All-tail P y xs all) t in (r.0, All-cons P y ys (all 0 y (omega arith)) r.1)

-- with what is so of all items of the one list, or of the other
pub off_left : {A B : Type 0} (P : A → Type 0) {r : A → B → Type 0} {xs : List A} {ys : List B} → All P xs → PairsOff r xs ys → PairsOff (λ x y. P x × r x y) xs ys
off_left P all none_left = none_left
off_left P all (one_pair {x} {y} {xs} h t p) = one_pair (all 0 x (omega arith), h) t (off_left P (All-tail P x xs all) p)

pub off_right : {A B : Type 0} (P : B → Type 0) {r : A → B → Type 0} {xs : List A} {ys : List B} → All P ys → PairsOff r xs ys → PairsOff (λ x y. P y × r x y) xs ys
off_right P all none_left = none_left
off_right P all (one_pair h t p) = let a = take_all P all t in one_pair (a.0, h) t (off_right P a.1 p)
