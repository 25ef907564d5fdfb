-- Lists in order that have each part as often are one list.
use Rattle.std.proofs.Common.{◌≡◌, ◌⊎◌, suc, ◌+◌, Bool, false, List, [], ◌∷◌, map, get_or, refl, sym, ◌∙◌, ap, subst, inl, inr, arith}
use Rattle.std.specs.Prelude.{IsSorted}
use Rattle.std.specs.Ordering.{nat_cmp, int_cmp, is_lt, ordering_reverse, ordering_then}
use Rattle.std.specs.declared.cmp.Ordering.{Ordering}
use Rattle.std.specs.declared.cmp.Ordering.TheVariants.{Less, Equal, Greater}
use Rattle.std.specs.Cmp.{IsTotalOrder, IsStrictWeakOrder, on_total, then_total, nat_cmp_total, int_cmp_total}
use Rattle.std.proofs.lemmas.List.Sorted.{ranks_by}
use Rattle.std.proofs.lemmas.Map.Lookups.{exact_unsigned, exact_signed}
use Rattle.same_places.specs.Pairing.{Takes, here, there}
use Rattle.same_places.specs.Same.{Part}
use Rattle.same_places.specs.Passing.{part_cmp, one_if, times_in, AsOften}
use Rattle.same_places.proofs.Parts.{one_self}
use Rattle.same_places.proofs.Counting.{taken_there, map_itself}

part_total : IsTotalOrder part_cmp
part_total = then_total (on_total (λ (p : Part). p.0) nat_cmp_total) (on_total (λ (p : Part). p.1) int_cmp_total)

below : Part → Part → Bool
below p q = is_lt (part_cmp p q)

weak : IsStrictWeakOrder (λ p q. is_lt (part_cmp p q))
weak = ranks_by part_total (λ (p : Part). p)

flipped : (o r : Ordering) → o ≡ ordering_reverse r → is_lt o ≡ false → is_lt r ≡ false → o ≡ Equal
flipped o Less e d f = absurd cc
flipped o Equal e d f = e
flipped o Greater e d f = let k = ap is_lt e in absurd cc

both_equal : (a b : Ordering) → ordering_then a b ≡ Equal → (a ≡ Equal) × (b ≡ Equal)
both_equal Less b e = absurd cc
both_equal Equal b e = (refl, e)
both_equal Greater b e = absurd cc

-- two parts of which neither is before the other are one
level : (p q : Part) → is_lt (part_cmp p q) ≡ false → is_lt (part_cmp q p) ≡ false → p ≡ q
level (a, x) (b, y) e d =
    let k = both_equal (nat_cmp a b) (int_cmp x y) (flipped (part_cmp (a, x) (b, y)) (part_cmp (b, y) (a, x)) (part_total.antisymm (a, x) (b, y)) e d) in
    let m = exact_unsigned a b k.0 in
    let n = exact_signed x y k.1 in
    λ i. (m i, n i)

tail_ordered : (p : Part) (ps : List Part) → IsSorted part_cmp (p ∷ ps) → IsSorted part_cmp ps
tail_ordered p ps up k d l h =
    let e : suc k + 1 ≡ suc (k + 1) = omega arith in
    subst (λ n. is_lt (part_cmp (get_or (p ∷ ps) n d) (get_or ps k d)) ≡ false) e (up (suc k) d (omega arith) (omega arith))

-- nothing behind the first is before it
none_before : (q p : Part) (ps rest : List Part) → IsSorted part_cmp (p ∷ ps) → Takes q ps rest → is_lt (part_cmp q p) ≡ false
none_before q p ps rest up (here {xs}) = up 0 p (omega arith) (omega arith)
none_before q p ps rest up (there {y} {xs} {ys} t) = weak.chain q y p (none_before q y xs ys (tail_ordered p (y ∷ xs) up) t) (up 0 p (omega arith) (omega arith))

first_or_behind : (p q : Part) (ps rest : List Part) → Takes p (q ∷ ps) rest → (p ≡ q) ⊎ ((left : List Part) × Takes p ps left)
first_or_behind p q ps rest here = inl refl
first_or_behind p q ps rest (there {xs} {ys} t) = inr (ys, t)

one_first : (p q : Part) (ps qs : List Part) → IsSorted part_cmp (p ∷ ps) → IsSorted part_cmp (q ∷ qs) → AsOften (p ∷ ps) (q ∷ qs) → p ≡ q
one_first p q ps qs up up' so =
    let a = stands p q ps qs so in
    let b = stands q p qs ps (λ x. sym (so x)) in
    elim (first_or_behind p q qs a.0 a.1) [
      | inl e ↦ e
      | inr s ↦ elim (first_or_behind q p ps b.0 b.1) [
        | inl e ↦ sym e
        | inr t ↦ level p q (none_before p q qs s.0 up' s.1) (none_before q p ps t.0 up t.1)
      ]
    ]
  where
    stands : (p q : Part) (ps qs : List Part) → AsOften (p ∷ ps) (q ∷ qs) → (rest : List Part) × Takes p (q ∷ qs) rest
    stands p q ps qs so =
        let o = one_self p in
        let d = so p in
        let m : times_in (map (λ (x : Part). x) (q ∷ qs)) p ≡ suc (times_in ps p) = ap (λ xs. times_in xs p) (map_itself (q ∷ qs)) ∙ omega arith in
        let r = taken_there (λ (x : Part). x) p (q ∷ qs) (times_in ps p) m in
        (r.1, subst (λ x. Takes x (q ∷ qs) r.1) (sym r.3) r.2)

pub one_order : (ps qs : List Part) → IsSorted part_cmp ps → IsSorted part_cmp qs → AsOften ps qs → ps ≡ qs
one_order [] [] up up' so = refl
one_order [] (q ∷ qs) up up' so = let d = so q in let o = one_self q in absurd (omega arith)
one_order (p ∷ ps) [] up up' so = let d = so p in let o = one_self p in absurd (omega arith)
one_order (p ∷ ps) (q ∷ qs) up up' so =
    let e = one_first p q ps qs up up' so in
    let rest : AsOften ps qs = λ x. let d = so x in let k : one_if x p ≡ one_if x q = ap (one_if x) e in omega arith in
    let t = one_order ps qs (tail_ordered p ps up) (tail_ordered q qs up') rest in
    λ i. e i ∷ t i
