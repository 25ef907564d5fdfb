-- Lists pair off exactly where each part stands as often in the one as in the other.
use Rattle.std.proofs.Common.{◌≡◌, ℕ, suc, ◌+◌, List, [], ◌∷◌, map, refl, sym, ◌∙◌, ap, inl, inr, arith}
use Rattle.std.specs.Prelude.{sum_by, IsPermutation}
use Rattle.std.proofs.lemmas.List.Sums.{sum_by-cons}
use Rattle.std.proofs.lemmas.List.Sorted.{sum_by-IsPermutation}
use Rattle.same_places.specs.Pairing.{Takes, here, there, PairsOff, none_left, one_pair}
use Rattle.same_places.specs.Same.{Part}
use Rattle.same_places.specs.Passing.{one_if, times_in, AsOften}
use Rattle.same_places.proofs.Pairing.{take_mapped}
use Rattle.same_places.proofs.Parts.{one_self, one_or_none}

pub times_taken : {x : Part} {xs ys : List Part} → Takes x xs ys → (p : Part) → times_in xs p ≡ one_if p x + times_in ys p
times_taken here p = refl
times_taken {x} (there {y} {xs} {ys} t) p = let e = times_taken t p in omega arith

pub map_itself : {B : Type 0} (xs : List B) → map (λ x. x) xs ≡ xs
map_itself [] = refl
map_itself (x ∷ xs) = ap (λ ys. x ∷ ys) (map_itself xs)

-- an item whose part is counted stands there
pub taken_there : {B : Type 0} (g : B → Part) (p : Part) (bs : List B) (n : ℕ) → times_in (map g bs) p ≡ suc n → (b : B) × (rest : List B) × Takes b bs rest × (p ≡ g b)
taken_there g p [] n e = absurd (omega arith)
taken_there g p (b ∷ bs) n e = elim (one_or_none p (g b)) [
  | inl s ↦ (b, bs, here, s)
  | inr z ↦
      let r = taken_there g p bs n (omega arith) in
      (r.0, b ∷ r.1, there r.2, r.3)
]

module _ {A B : Type 0} (f : A → Part) (g : B → Part) where
  pub off_counts : {xs : List A} {ys : List B} → PairsOff (λ a b. f a ≡ g b) xs ys → AsOften (map f xs) (map g ys)
  off_counts none_left p = refl
  off_counts (one_pair {x} {y} {xs} {ys} {rest} h t o) p =
      let e = times_taken (take_mapped g t) p in
      let d = off_counts o p in
      let k : one_if p (f x) ≡ one_if p (g y) = ap (one_if p) h in
      omega arith

  rest_as_often : (a : A) (as' : List A) (b : B) (bs rest : List B) → AsOften (map f (a ∷ as')) (map g bs) → Takes b bs rest → f a ≡ g b → AsOften (map f as') (map g rest)
  rest_as_often a as' b bs rest so t h p =
      let e = times_taken (take_mapped g t) p in
      let d = so p in
      let k : one_if p (f a) ≡ one_if p (g b) = ap (one_if p) h in
      omega arith

  pub counts_off : (xs : List A) (ys : List B) → AsOften (map f xs) (map g ys) → PairsOff (λ a b. f a ≡ g b) xs ys
  counts_off [] [] so = none_left
  counts_off [] (b ∷ bs) so = let e = so (g b) in let o = one_self (g b) in absurd (omega arith)
  counts_off (a ∷ xs) ys so =
      let o = one_self (f a) in
      let d = so (f a) in
      let r = taken_there g (f a) ys (times_in (map f xs) (f a)) (omega arith) in
      one_pair r.3 r.2 (counts_off xs r.1 (rest_as_often a xs r.0 ys r.1 so r.2 r.3))

-- a list in another order has each part as often
counted : (p : Part) (xs : List Part) → sum_by (one_if p) xs ≡ times_in xs p
counted p [] = refl
counted p (x ∷ xs) = sum_by-cons (one_if p) x xs ∙ ap (λ n. one_if p x + n) (counted p xs)

pub permuted_as_often : (xs ys : List Part) → IsPermutation xs ys → AsOften ys xs
permuted_as_often xs ys h p = sym (counted p ys) ∙ sum_by-IsPermutation (one_if p) xs ys h ∙ counted p xs
