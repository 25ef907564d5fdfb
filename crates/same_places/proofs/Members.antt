-- Places that go from one class to another, and their lists.
use Rattle.std.proofs.Common.{◌≡◌, ◌≢◌, ◌⊎◌, ℕ, zero, suc, ◌+◌, ◌<◌, ◌==◌, Bool, true, false, List, [], ◌∷◌, ◌++◌, map, length, get_or, take, refl, sym, ◌∙◌, ap, subst, inl, inr, arith, get_or-set_same, get_or-set_other}
use Rattle.std.specs.Prelude.{slice_set}
use Rattle.std.proofs.lemmas.List.{take_more}
use Rattle.std.proofs.Math.ListN.{set, length-set}
use Rattle.same_places.specs.Same.{at}
use Rattle.same_places.specs.Passing.{into, IsMerged}
use Rattle.same_places.specs.Members.{IsIn, list_at, AreListed, IsRenamed}

one_or_other : (a b : ℕ) → (a ≡ b) ⊎ (a ≢ b)
one_or_other a b = go (a == b) refl
  where
    go : (t : Bool) → (a == b) ≡ t → (a ≡ b) ⊎ (a ≢ b)
    go true e = inl (grind (arith, e))
    go false e = inr (λ h. grind (arith, e, h))

into_one : (from to k : ℕ) → k ≡ from → into from to k ≡ to
into_one from to k e = let t : (k == from) ≡ true = grind (arith, e) in rw t refl

into_itself : (from to k : ℕ) → k ≢ from → into from to k ≡ k
into_itself from to k n = go (k == from) refl
  where
    go : (t : Bool) → (k == from) ≡ t → into from to k ≡ k
    go true e = absurd (n (grind (arith, e)))
    go false e = rw e refl

-- ---- what is in a list

pub in_left : (x : ℕ) (xs ys : List ℕ) → IsIn x xs → IsIn x (xs ++ ys)
in_left x (y ∷ xs) ys h = elim h [ inl e ↦ inl e | inr r ↦ inr (in_left x xs ys r) ]
in_left x [] ys h = absurd h

pub in_right : (x : ℕ) (xs ys : List ℕ) → IsIn x ys → IsIn x (xs ++ ys)
in_right x [] ys h = h
in_right x (y ∷ xs) ys h = inr (in_right x xs ys h)

pub in_either : (x : ℕ) (xs ys : List ℕ) → IsIn x (xs ++ ys) → IsIn x xs ⊎ IsIn x ys
in_either x [] ys h = inr h
in_either x (y ∷ xs) ys h = elim h [
  | inl e ↦ inl (inl e)
  | inr r ↦ elim (in_either x xs ys r) [ inl a ↦ inl (inr a) | inr b ↦ inr b ]
]

pub in_at : (xs : List ℕ) (k : ℕ) → k < length xs → IsIn (get_or xs k 0) xs
in_at [] k l = absurd (omega arith)
in_at (y ∷ xs) zero l = inl refl
in_at (y ∷ xs) (suc k) l = inr (in_at xs k (omega arith))

-- ---- one place more

pub renamed_none : (to : ℕ) (c : List ℕ) → IsRenamed [] to c c
renamed_none to c = record { all = refl; these = λ i h. absurd h; others = λ i h. refl }

pub renamed_more : (places : List ℕ) (k to : ℕ) (c d : List ℕ) → k < length places → get_or places k 0 < length d → IsRenamed (take k places) to c d → IsRenamed (take (k + 1) places) to c (slice_set d (get_or places k 0) to)
renamed_more places k to c d l below so =
    subst (λ ps. IsRenamed ps to c (set d x to)) (sym (take_more places k 0 l)) (record {
      all = length-set d x to ∙ so.all;
      these = λ i h. elim (one_or_other i x) [
        | inl e ↦ ap (at (set d x to)) e ∙ get_or-set_same d x to 0 below
        | inr n ↦ get_or-set_other d x i to 0 n ∙ so.these i (front i n (in_either i (take k places) (x ∷ []) h))
      ];
      others = λ i h.
          get_or-set_other d x i to 0 (λ e. h (in_right i (take k places) (x ∷ []) (inl e))) ∙ so.others i (λ g. h (in_left i (take k places) (x ∷ []) g));
    })
  where
    x : ℕ
    x = get_or places k 0

    front : (i : ℕ) → i ≢ x → IsIn i (take k places) ⊎ IsIn i (x ∷ []) → IsIn i (take k places)
    front i n (inl h) = h
    front i n (inr h) = elim h [ inl e ↦ absurd (n e) | inr z ↦ absurd z ]

-- ---- one class into another

module _ (c d : List ℕ) (lists : List (List ℕ)) (from to : ℕ) (listed : AreListed c lists) (renamed : IsRenamed (list_at lists from) to c d) where
  gone : (i : ℕ) → i < length c → at c i ≡ from → at d i ≡ to
  gone i k e = renamed.these i (subst (λ z. IsIn i (list_at lists z)) e (listed.there i k))

  stays : (i : ℕ) → at c i ≢ from → at d i ≡ at c i
  stays i n = renamed.others i (λ h. n (listed.alone from i h).1)

  pub merged_of : IsMerged from to c d
  merged_of = record {
    all = renamed.all;
    renamed = λ i k. elim (one_or_other (at c i) from) [
      | inl e ↦ gone i k e ∙ sym (into_one from to (at c i) e)
      | inr n ↦ stays i n ∙ sym (into_itself from to (at c i) n)
    ];
  }

  module _ (from_below : from < length c) (to_below : to < length c) (two : from ≢ to) (lists' : List (List ℕ)) (is : lists' ≡ set (set lists from []) to (list_at (set lists from []) to ++ list_at lists from)) where
    left : List (List ℕ)
    left = set lists from []

    at_to : list_at lists' to ≡ list_at lists to ++ list_at lists from
    unfolding left
    at_to =
        let n = length-set lists from [] in
        let m = listed.all in
        let below : to < length (set lists from []) = omega arith in
        ap (λ ls. list_at ls to) is ∙ get_or-set_same (set lists from []) to (list_at (set lists from []) to ++ list_at lists from) [] below
        ∙ ap (λ ys. ys ++ list_at lists from) (get_or-set_other lists from to [] [] (λ e. two (sym e)))

    at_from : list_at lists' from ≡ []
    at_from =
        let m = listed.all in
        let below : from < length lists = omega arith in
        ap (λ ls. list_at ls from) is ∙ get_or-set_other (set lists from []) to from (list_at (set lists from []) to ++ list_at lists from) [] two ∙ get_or-set_same lists from [] [] below

    at_other : (k : ℕ) → k ≢ to → k ≢ from → list_at lists' k ≡ list_at lists k
    at_other k n m =
        ap (λ ls. list_at ls k) is ∙ get_or-set_other (set lists from []) to k (list_at (set lists from []) to ++ list_at lists from) [] n ∙ get_or-set_other lists from k [] [] m

    belongs : (k i : ℕ) → IsIn i (list_at lists' k) → (i < length c) × (at d i ≡ k)
    belongs k i h = elim (one_or_other k to) [
      | inl e ↦ elim (in_either i (list_at lists to) (list_at lists from) (subst (λ xs. IsIn i xs) (ap (list_at lists') e ∙ at_to) h)) [
        | inl a ↦ let r = listed.alone to i a in (r.0, stays i (λ z. two (sym z ∙ r.1)) ∙ r.1 ∙ sym e)
        | inr b ↦ let r = listed.alone from i b in (r.0, renamed.these i b ∙ sym e)
      ]
      | inr n ↦ elim (one_or_other k from) [
        | inl e ↦ absurd (subst (λ xs. IsIn i xs) (ap (list_at lists') e ∙ at_from) h)
        | inr m ↦ let r = listed.alone k i (subst (λ xs. IsIn i xs) (at_other k n m) h) in (r.0, stays i (λ z. m (sym r.1 ∙ z)) ∙ r.1)
      ]
    ]

    stands : (i : ℕ) → i < length c → IsIn i (list_at lists' (at d i))
    stands i k = elim (one_or_other (at c i) from) [
      | inl e ↦ subst (λ z. IsIn i (list_at lists' z)) (sym (gone i k e)) (subst (λ xs. IsIn i xs) (sym at_to) (in_right i (list_at lists to) (list_at lists from) (subst (λ z. IsIn i (list_at lists z)) e (listed.there i k))))
      | inr n ↦ subst (λ z. IsIn i (list_at lists' z)) (sym (stays i n)) (elim (one_or_other (at c i) to) [
        | inl e ↦ subst (λ z. IsIn i (list_at lists' z)) (sym e) (subst (λ xs. IsIn i xs) (sym at_to) (in_left i (list_at lists to) (list_at lists from) (subst (λ z. IsIn i (list_at lists z)) e (listed.there i k))))
        | inr m ↦ subst (λ xs. IsIn i xs) (sym (at_other (at c i) m n)) (listed.there i k)
      ])
    ]

    pub listed_of : AreListed d lists'
    listed_of =
        let n = renamed.all in
        record {
          all = ap length is ∙ length-set (set lists from []) to (list_at (set lists from []) to ++ list_at lists from) ∙ length-set lists from [] ∙ listed.all ∙ sym n;
          below = λ i k. elim (one_or_other (at c i) from) [
            | inl e ↦ let g = gone i (omega arith) e in omega arith
            | inr m ↦ let g = stays i m in let b = listed.below i (omega arith) in omega arith
          ];
          there = λ i k. stands i (omega arith);
          alone = λ k i h. let r = belongs k i h in (let a = r.0 in omega arith, r.1);
        }

-- ---- lists as the code has them

pub list_mapped : {A : Type 0} (f : A → List ℕ) (xs : List A) (k : ℕ) (x : A) → k < length xs → x ≡ get_or xs k x → list_at (map f xs) k ≡ f x
list_mapped f [] k x l e = absurd (omega arith)
list_mapped f (y ∷ xs) zero x l e = ap f (sym e)
list_mapped f (y ∷ xs) (suc k) x l e = list_mapped f xs k x (omega arith) e
