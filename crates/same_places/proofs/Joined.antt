-- Joining two classes keeps what is known of them, and closed classes hold all that is related.
use Rattle.std.proofs.Common.{◌≡◌, ◌⊎◌, ℕ, ◌<◌, Bool, true, false, ◌==◌, List, length, refl, sym, ◌∙◌, ap, subst, inl, inr, arith}
use Rattle.same_places.specs.Pairing.{Takes, PairsOff, none_left, one_pair}
use Rattle.same_places.specs.Same.{Part, Row, Pairs, Same, itself, turned, through, given, alike, SameParts, no_parts, one_part, at, PairsWithin}
use Rattle.same_places.specs.Passing.{into, IsMerged, IsJoined, Sound, Joins, PairsHold, OneMark, Closed, Known}

into_cases : (from to k : ℕ) → ((k ≡ from) × (into from to k ≡ to)) ⊎ (into from to k ≡ k)
into_cases from to k = go (k == from) refl
  where
    go : (b : Bool) → (k == from) ≡ b → ((k ≡ from) × (into from to k ≡ to)) ⊎ (into from to k ≡ k)
    go true e = inl (grind (arith, e), rw e refl)
    go false e = inr (rw e refl)

into_self : (from to : ℕ) → into from to from ≡ to
into_self from to = elim (into_cases from to from) [ inl p ↦ p.1 | inr p ↦ grind arith ]

into_other : (from to : ℕ) → into from to to ≡ to
into_other from to = elim (into_cases from to to) [ inl p ↦ p.1 | inr p ↦ p ]

-- ---- one class into another

module _ (rows : List Row) (pairs : Pairs) (c d : List ℕ) (x y : ℕ) (k : x < length c) (l : y < length c) (merged : IsMerged (at c x) (at c y) c d) (s : Sound rows pairs c) (r : Same rows pairs x y) where
  known_merged : (a f : ℕ) → Known rows pairs c a f → Known rows pairs d a f
  known_merged a f known g m e =
      let n = merged.all in
      let within : g < length c = omega arith in
      let now = merged.renamed g within in
      elim (into_cases (at c x) (at c y) (at c g)) [
        | inl p ↦ let there : at c y ≡ a = sym p.1 ∙ sym now ∙ e in through (s g x within k p.0) (through r (known y l there))
        | inr p ↦ known g within (sym p ∙ sym now ∙ e)
      ]

  sound_merged : Sound rows pairs d
  sound_merged i j m o e =
      let n = merged.all in
      let within : j < length c = omega arith in
      let now = merged.renamed j within in
      elim (into_cases (at c x) (at c y) (at c j)) [
        | inl p ↦ known_merged (at d j) j (λ g a b. through (s g y a l (b ∙ now ∙ p.1)) (through (turned r) (s x j k within (sym p.0)))) i m e
        | inr p ↦ known_merged (at d j) j (λ g a b. s g j a within (b ∙ now ∙ p)) i m e
      ]

joins_merged : (from to : ℕ) (c d : List ℕ) → IsMerged from to c d → Joins c d
joins_merged from to c d merged = (merged.all, λ i j k l e. merged.renamed i k ∙ ap (into from to) e ∙ sym (merged.renamed j l))

one_merged : (c d : List ℕ) (x y : ℕ) → x < length c → y < length c → IsMerged (at c x) (at c y) c d → at d x ≡ at d y
one_merged c d x y k l merged = merged.renamed x k ∙ into_self (at c x) (at c y) ∙ sym (into_other (at c x) (at c y)) ∙ sym (merged.renamed y l)

-- ---- two classes as one

module _ (rows : List Row) (pairs : Pairs) (c d : List ℕ) (x y : ℕ) (k : x < length c) (l : y < length c) (joined : IsJoined x y c d) (s : Sound rows pairs c) (r : Same rows pairs x y) where
  pub known_joined : (a f : ℕ) → Known rows pairs c a f → Known rows pairs d a f
  known_joined a f known = elim joined [ inl m ↦ known_merged rows pairs c d x y k l m s r a f known | inr m ↦ known_merged rows pairs c d y x l k m s (turned r) a f known ]

  pub sound_joined : Sound rows pairs d
  sound_joined = elim joined [ inl m ↦ sound_merged rows pairs c d x y k l m s r | inr m ↦ sound_merged rows pairs c d y x l k m s (turned r) ]

pub joins_joined : (c d : List ℕ) (x y : ℕ) → IsJoined x y c d → Joins c d
joins_joined c d x y joined = elim joined [ inl m ↦ joins_merged (at c x) (at c y) c d m | inr m ↦ joins_merged (at c y) (at c x) c d m ]

pub one_joined : (c d : List ℕ) (x y : ℕ) → x < length c → y < length c → IsJoined x y c d → at d x ≡ at d y
one_joined c d x y k l joined = elim joined [ inl m ↦ one_merged c d x y k l m | inr m ↦ sym (one_merged c d y x l k m) ]

pub joins_on : (c d e : List ℕ) → Joins c d → Joins d e → Joins c e
joins_on c d e p q = (q.0 ∙ p.0, λ i j k l h. let n = p.0 in q.1 i j (omega arith) (omega arith) (p.1 i j k l h))

-- ---- parts

pub same_parts : (rows : List Row) (pairs : Pairs) {ps qs : List Part} → PairsOff (OneMark (Same rows pairs)) ps qs → SameParts rows pairs ps qs
same_parts rows pairs none_left = no_parts
same_parts rows pairs (one_pair {x = x} {y = y} {ys = ys} {rest = rest} h t p) =
    one_part {mark = x.1} h.1 (subst (λ m. Takes (y.0, m) ys rest) (sym h.0) t) (same_parts rows pairs p)

-- ---- closed classes

module _ (rows : List Row) (pairs : Pairs) (c : List ℕ) (closed : Closed rows c) (hold : PairsHold pairs c) where
  mutual
    pub complete : {i j : ℕ} → Same rows pairs i j → at c i ≡ at c j
    complete itself = refl
    complete (turned s) = sym (complete s)
    complete (through s t) = complete s ∙ complete t
    complete (given {i} {j} k e) = hold k i j e
    complete (alike k l r s e d x y h ps) = ap (at c) (sym x) ∙ closed k l r s e d h (complete_parts ps) ∙ ap (at c) y

    complete_parts : {ps qs : List Part} → SameParts rows pairs ps qs → PairsOff (OneMark (λ i j. at c i ≡ at c j)) ps qs
    complete_parts no_parts = none_left
    complete_parts (one_part s t r) = one_pair (refl, complete s) t (complete_parts r)

-- ---- the given pairs

pub apart_sound : (rows : List Row) (pairs : Pairs) (c : List ℕ) (n : ℕ) → length c ≡ n → ((i : ℕ) → i < n → at c i ≡ i) → Sound rows pairs c
apart_sound rows pairs c n e own i j k l h =
    let a = own i (omega arith) in
    let b = own j (omega arith) in
    let s : i ≡ j = sym a ∙ h ∙ b in
    subst (λ z. Same rows pairs i z) s itself

pub hold_joined : (pairs : Pairs) (c d : List ℕ) (n : ℕ) → length c ≡ n → PairsWithin n pairs → Joins c d → PairsHold pairs c → PairsHold pairs d
hold_joined pairs c d n e within joins hold k i j h =
    let w = within k i j h in
    joins.1 i j (omega (arith, w.0, e)) (omega (arith, w.1, e)) (hold k i j h)
