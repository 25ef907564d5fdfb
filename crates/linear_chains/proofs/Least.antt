-- The table of the least bounds, and sums of three links.
use Rattle.std.proofs.Common.{◌≡◌, ◌≢◌, ◌⊎◌, ℕ, zero, suc, ◌+◌, ◌<◌, ◌≤◌, ◌==◌, ◌&&◌, Bool, true, false, not, length, map, List, [], ◌∷◌, refl, sym, ◌∙◌, ap, subst, inl, inr, arith}
use Rattle.std.specs.Prelude.{ℤ, pos, ◌+ℤ◌, ◌≤ℤ◌, ◌<ℤ◌, Option, Some, None, slice_get}
use Rattle.std.specs.Ordering.{int_eq}
use Rattle.std.specs.Cmp.{signed_Decides}
use Rattle.std.specs.Bool.{MatchBool}
use Rattle.std.proofs.lemmas.Bool.{cases_lt}
use Rattle.std.proofs.lemmas.Int.{ints}
use Rattle.linear_chains.specs.Links.{Form, Link, step_of, IsOrdered, times_at, positive, negative}
use Rattle.linear_chains.specs.Chains.{AllDiffer, AreOrdered, Picks, IsShortSum, IsRefuted, times_in, bounds_of, Meets}
use Rattle.linear_chains.specs.Sums.{IsOpposite, IsLeast, Has, Lacks, NoThird, NoSumOfThree, first_of}
use Rattle.linear_chains.specs.View.{same_form, same_link}
use Rattle.linear_chains.proofs.Equality.{form_is, form_self, told}
use Rattle.linear_chains.proofs.Lists.{place_below, one_item, next_or}
use Rattle.linear_chains.proofs.Forms.{one_form, opposite_sides, two_begin}
use Rattle.linear_chains.proofs.Walking.{none_where_met}

-- ---- one link is another

left : (a b : Bool) → (a && b) ≡ true → a ≡ true
left true b e = refl
left false b e = absurd cc

right : (a b : Bool) → (a && b) ≡ true → b ≡ true
right true b e = e
right false b e = absurd cc

both : (a b : Bool) → a ≡ true → b ≡ true → (a && b) ≡ true
both true b e f = f
both false b e f = absurd cc

pub link_is : (l m : Link) → same_link l m ≡ true → l ≡ m
link_is l m e =
    let f = form_is (l.form) (m.form) (left (same_form (l.form) (m.form)) (int_eq (l.bound) (m.bound)) e) in
    let b = (signed_Decides (l.bound) (m.bound)).0 (right (same_form (l.form) (m.form)) (int_eq (l.bound) (m.bound)) e) in
    λ i. record { form = f i; bound = b i }

pub link_isnt : (l m : Link) → same_link l m ≡ false → l ≢ m
link_isnt l m e h =
    let self : same_link l l ≡ true = both (same_form (l.form) (l.form)) (int_eq (l.bound) (l.bound)) (form_self (l.form)) ((signed_Decides (l.bound) (l.bound)).1 refl) in
    let t : same_link l m ≡ true = ap (same_link l) (sym h) ∙ self in
    absurd cc

-- three links differ, or two of them are one
pub differ_third : (a b l : Link) (t : Bool) → same_link a b ≡ false → same_link a l ≡ false → t ≡ same_link b l → MatchBool (not t) (AllDiffer (a ∷ b ∷ l ∷ [])) (AllDiffer (a ∷ b ∷ l ∷ []) → ⊥)
differ_third a b l true d e f = λ h. h.1.0.0 (link_is b l (sym f))
differ_third a b l false d e f = ((link_isnt a b d, (link_isnt a l e, tt)), ((link_isnt b l (sym f), tt), (tt, tt)))

pub differ_first : (a b l : Link) → same_link a b ≡ true → AllDiffer (a ∷ b ∷ l ∷ []) → ⊥
differ_first a b l e h = h.0.0 (link_is a b e)

pub differ_second : (a b l : Link) → same_link a l ≡ true → AllDiffer (a ∷ b ∷ l ∷ []) → ⊥
differ_second a b l e h = h.0.1.0 (link_is a l e)

-- ---- the table

pub least_none : (links : List Link) (look : Form → Option ℕ) → ((f : Form) → look f ≡ None) → IsLeast links 0 look
least_none links look n = record {
  found = λ f k e. let q = n f in absurd cc;
  least = λ j l b. absurd (omega arith);
}

module _ (links : List Link) (n : ℕ) (look : Form → Option ℕ) (t : IsLeast links n look) (l : Link) (e : slice_get links n ≡ Some l) where
  pub least_has : Has links look l → IsLeast links (n + 1) look
  least_has h = record {
    found = t.found;
    least = λ j m b q. elim (next_or n j b) [
      | inl s ↦ subst (Has links look) (one_item (slice_get links n) l m e (ap (slice_get links) (sym s) ∙ q)) h
      | inr b' ↦ t.least j m b' q
    ];
  }

  pub least_put : (look' : Form → Option ℕ) → Lacks links look l → look' (l.form) ≡ Some n → ((f : Form) → (f ≡ l.form) ⊎ (look' f ≡ look f)) → IsLeast links (n + 1) look'
  least_put look' lacks new others = record {
    found = λ f k q. elim (others f) [
      | inl s ↦
          let r : look' f ≡ Some n = ap look' s ∙ new in
          let same : n ≡ k = one_item (look' f) n k r q in
          (l, subst (λ z. slice_get links z ≡ Some l) same e, sym s)
      | inr s ↦ t.found f k (sym s ∙ q)
    ];
    least = λ j m b q. elim (next_or n j b) [
      | inl s ↦ subst (Has links look') (one_item (slice_get links n) l m e (ap (slice_get links) (sym s) ∙ q)) (n, l, new, e, self (l.bound))
      | inr b' ↦ keeps m (t.least j m b' q)
    ];
  }
    where
      self : (z : ℤ) → z ≤ℤ z
      self z = omega (arith, ints)

      chain : (x y z : ℤ) → x ≤ℤ y → y ≤ℤ z → x ≤ℤ z
      chain x y z a b = omega (arith, ints)

      keeps : (m : Link) → Has links look m → Has links look' m
      keeps m h = elim (others (m.form)) [
        | inl s ↦
            let was : look (l.form) ≡ Some (h.0) = ap look (sym s) ∙ h.2 in
            (n, l, ap look' s ∙ new, e, chain (l.bound) (h.1.bound) (m.bound) (lacks (h.0) (h.1) was h.3) h.4)
        | inr s ↦ (h.0, h.1, s ∙ h.2, h.3, h.4)
      ]

-- ---- two links and the third one

abbrev Sum0 : Link → Link → Link → Type 0
Sum0 a b l = (c : ℕ) → times_in (a ∷ b ∷ l ∷ []) c ≡ pos 0

third_is : (a b l : Link) (form : Form) → IsOpposite (a.form) (b.form) form → IsOrdered (l.form) → Sum0 a b l → l.form ≡ form
third_is a b l form o q e = one_form (l.form) form q o.ordered (λ c. same (times_at (a.form) c) (times_at (b.form) c) (times_at (l.form) c) (times_at form c) (e c) (o.nothing c))
  where
    same : (x y z w : ℤ) → x +ℤ (y +ℤ (z +ℤ pos 0)) ≡ pos 0 → (x +ℤ y) +ℤ w ≡ pos 0 → z ≡ w
    same x y z w d e = omega (arith, ints)

module _ (links : List Link) (ordered : AreOrdered links) (look : Form → Option ℕ) (t : IsLeast links (length links) look) (i j : ℕ) (a b : Link) (at_i : slice_get links i ≡ Some a) (at_j : slice_get links j ≡ Some b) (form : Form) (o : IsOpposite (a.form) (b.form) form) where
  -- the third link has the form that is looked up
  looked : (k : ℕ) (a' b' l : Link) → slice_get links i ≡ Some a' → slice_get links j ≡ Some b' → slice_get links k ≡ Some l → Sum0 a' b' l → (a ≡ a') × (b ≡ b') × (l.form ≡ form)
  looked k a' b' l d e q n =
      let x : a ≡ a' = one_item (slice_get links i) a a' at_i d in
      let y : b ≡ b' = one_item (slice_get links j) b b' at_j e in
      (x, y, third_is a b l form o (ordered k l q) (subst (λ z. Sum0 z b l) (sym x) (subst (λ z. Sum0 a' z l) (sym y) n)))

  pub no_place : look form ≡ None → NoThird links look i j
  no_place none k a' b' l d e q alike r differ n neg =
      let s = looked k a' b' l d e q n in
      let f : look (l.form) ≡ None = ap look s.2 ∙ none in
      absurd cc

  module _ (k : ℕ) (l : Link) (hit : look form ≡ Some k) (at_k : slice_get links k ≡ Some l) where
    pub no_sum : (AllDiffer (a ∷ b ∷ l ∷ []) → bounds_of (a ∷ b ∷ l ∷ []) <ℤ pos 0 → ⊥) → NoThird links look i j
    no_sum none m a' b' l' d e q alike r differ n neg =
        let s = looked m a' b' l' d e q n in
        let same : k ≡ m = one_item (look form) k m hit (ap look (sym s.2) ∙ r) in
        let z : l ≡ l' = one_item (slice_get links k) l l' at_k (ap (slice_get links) same ∙ q) in
        let x : (a' ∷ b' ∷ l' ∷ []) ≡ (a ∷ b ∷ l ∷ []) = sym (λ p. s.0 p ∷ s.1 p ∷ z p ∷ []) in
        none (subst AllDiffer x differ) (subst (λ w. bounds_of w <ℤ pos 0) x neg)

    pub a_sum : (total : ℤ) → AllDiffer (a ∷ b ∷ l ∷ []) → total ≡ bounds_of (a ∷ b ∷ l ∷ []) → total <ℤ pos 0 → IsShortSum links (i ∷ j ∷ k ∷ []) total
    a_sum total differ sum neg = record {
      picked = a ∷ b ∷ l ∷ [];
      picks = (at_i, (at_j, (at_k, tt)));
      few = omega arith;
      differ = differ;
      nothing = λ c. joined (times_at (a.form) c) (times_at (b.form) c) (times_at (l.form) c) (times_at form c) (o.nothing c) (ap (λ f. times_at f c) is);
      sum = sum;
      negative = neg;
    }
      where
        joined : (x y z w : ℤ) → (x +ℤ y) +ℤ w ≡ pos 0 → z ≡ w → x +ℤ (y +ℤ (z +ℤ pos 0)) ≡ pos 0
        joined x y z w d e = omega (arith, ints)

        is : l.form ≡ form
        is = let f = t.found form k hit in ap (λ z. z.form) (one_item (slice_get links k) l (f.0) at_k f.1) ∙ f.2

-- ---- where numbers meet all links and no two have a third one, there is no refutation

step_at : (links : List Link) (k : ℕ) (l : Link) → slice_get links k ≡ Some l → slice_get (map step_of links) k ≡ Some (step_of l)
step_at [] k l e = absurd cc
step_at (m ∷ links) zero l e = let s : m ≡ l = cc in ap (λ z. Some (step_of z)) s
step_at (m ∷ links) (suc k) l e = step_at links k l e

module _ (links : List Link) (ordered : AreOrdered links) (d : Form → ℤ) (meets : Meets (map step_of links) d) where
  held : (k : ℕ) (l : Link) → slice_get links k ≡ Some l → d (positive (l.form)) ≤ℤ (d (negative (l.form)) +ℤ l.bound)
  held k l e = meets k (step_of l) (step_at links k l e)

  no_empty : (k : ℕ) (l : Link) → slice_get links k ≡ Some l → ((c : ℕ) → times_at (l.form) c ≡ pos 0) → pos 0 ≤ℤ l.bound
  no_empty k l e n =
      let empty : l.form ≡ [] = one_form (l.form) [] (ordered k l e) tt n in
      let h = held k l e in
      let x : d (positive (l.form)) ≡ d [] = ap (λ f. d (positive f)) empty in
      let y : d (negative (l.form)) ≡ d [] = ap (λ f. d (negative f)) empty in
      at_least (d (positive (l.form))) (d (negative (l.form))) (d []) l.bound h x y
    where
      at_least : (p q z b : ℤ) → p ≤ℤ (q +ℤ b) → p ≡ z → q ≡ z → pos 0 ≤ℤ b
      at_least p q z b h x y = omega (arith, ints)

  no_one : (k : ℕ) (a : Link) → slice_get links k ≡ Some a → ((c : ℕ) → times_in (a ∷ []) c ≡ pos 0) → bounds_of (a ∷ []) <ℤ pos 0 → ⊥
  no_one k a e n neg = let h = no_empty k a e (λ c. only (times_at (a.form) c) (n c)) in less (a.bound) h neg
    where
      only : (x : ℤ) → x +ℤ pos 0 ≡ pos 0 → x ≡ pos 0
      only x e = omega (arith, ints)

      less : (x : ℤ) → pos 0 ≤ℤ x → (x +ℤ pos 0) <ℤ pos 0 → ⊥
      less x h n = absurd (omega (arith, ints))

  no_two : (k m : ℕ) (a b : Link) → slice_get links k ≡ Some a → slice_get links m ≡ Some b → ((c : ℕ) → times_in (a ∷ b ∷ []) c ≡ pos 0) → bounds_of (a ∷ b ∷ []) <ℤ pos 0 → ⊥
  no_two k m a b e f n neg =
      let s = opposite_sides (a.form) (b.form) (ordered k a e) (ordered m b f) (λ c. only (times_at (a.form) c) (times_at (b.form) c) (n c)) in
      less (d (positive (a.form))) (d (negative (a.form))) (d (positive (b.form))) (d (negative (b.form))) a.bound b.bound (held k a e) (held m b f) (ap d s.from) (ap d s.to) neg
    where
      only : (x y : ℤ) → x +ℤ (y +ℤ pos 0) ≡ pos 0 → x +ℤ y ≡ pos 0
      only x y e = omega (arith, ints)

      less : (p q r s x y : ℤ) → p ≤ℤ (q +ℤ x) → r ≤ℤ (s +ℤ y) → r ≡ q → s ≡ p → (x +ℤ (y +ℤ pos 0)) <ℤ pos 0 → ⊥
      less p q r s x y h g e f n = absurd (omega (arith, ints))

  module _ (look : Form → Option ℕ) (t : IsLeast links (length links) look) (pairs : (i j : ℕ) → i < j → j < length links → NoThird links look i j) where
    swapped : (a b l : Link) → AllDiffer (a ∷ b ∷ l ∷ []) → AllDiffer (b ∷ a ∷ l ∷ [])
    swapped a b l h = (((λ e. h.0.0 (sym e)), (h.1.0.0, tt)), ((h.0.1.0, tt), (tt, tt)))

    -- a link of another form than these two is looked up
    odd : (i j k : ℕ) (a b l : Link) → slice_get links i ≡ Some a → slice_get links j ≡ Some b → slice_get links k ≡ Some l → a ≢ b → l.form ≢ a.form → l.form ≢ b.form → first_of (a.form) ≡ first_of (b.form) → Sum0 a b l → bounds_of (a ∷ b ∷ l ∷ []) <ℤ pos 0 → ⊥
    odd i j k a b l at_i at_j at_k ab la lb alike n neg =
        let best = t.least k l (place_below links k l at_k) at_k in
        let m = best.1 in
        let f = t.found (l.form) (best.0) best.2 in
        let is : m.form ≡ l.form = ap (λ z. z.form) (one_item (slice_get links (best.0)) m (f.0) best.3 f.1) ∙ f.2 in
        let am : a ≢ m = λ e. la (sym is ∙ ap (λ z. z.form) (sym e)) in
        let bm : b ≢ m = λ e. lb (sym is ∙ ap (λ z. z.form) (sym e)) in
        let hit : look (m.form) ≡ Some (best.0) = ap look is ∙ best.2 in
        let n' : Sum0 a b m = λ c. ap (λ z. times_at (a.form) c +ℤ (times_at (b.form) c +ℤ (times_at z c +ℤ pos 0))) is ∙ n c in
        let neg' : bounds_of (a ∷ b ∷ m ∷ []) <ℤ pos 0 = smaller (a.bound) (b.bound) (m.bound) (l.bound) best.4 neg in
        elim (cases_lt i j) [
          | inl l' ↦ pairs i j l' (place_below links j b at_j) (best.0) a b m at_i at_j best.3 alike hit ((ab, (am, tt)), ((bm, tt), (tt, tt))) n' neg'
          | inr g ↦
              let ne : i ≢ j = λ e. ab (one_item (slice_get links i) a b at_i (ap (slice_get links) e ∙ at_j)) in
              pairs j i (omega arith) (place_below links i a at_i) (best.0) b a m at_j at_i best.3 (sym alike) hit (swapped a b m ((ab, (am, tt)), ((bm, tt), (tt, tt)))) (λ c. turn (times_at (a.form) c) (times_at (b.form) c) (times_at (m.form) c) (n' c))
              (turn_less (a.bound) (b.bound) (m.bound) neg')
        ]
      where
        smaller : (x y z w : ℤ) → z ≤ℤ w → (x +ℤ (y +ℤ (w +ℤ pos 0))) <ℤ pos 0 → (x +ℤ (y +ℤ (z +ℤ pos 0))) <ℤ pos 0
        smaller x y z w h n = omega (arith, ints)

        turn : (x y z : ℤ) → x +ℤ (y +ℤ (z +ℤ pos 0)) ≡ pos 0 → y +ℤ (x +ℤ (z +ℤ pos 0)) ≡ pos 0
        turn x y z e = omega (arith, ints)

        turn_less : (x y z : ℤ) → (x +ℤ (y +ℤ (z +ℤ pos 0))) <ℤ pos 0 → (y +ℤ (x +ℤ (z +ℤ pos 0))) <ℤ pos 0
        turn_less x y z e = omega (arith, ints)

    all_one_form : (i j k : ℕ) (a b l : Link) → slice_get links i ≡ Some a → slice_get links j ≡ Some b → slice_get links k ≡ Some l → b.form ≡ a.form → l.form ≡ a.form → Sum0 a b l → bounds_of (a ∷ b ∷ l ∷ []) <ℤ pos 0 → ⊥
    all_one_form i j k a b l at_i at_j at_k ba la n neg =
        let zero : (c : ℕ) → times_at (a.form) c ≡ pos 0 = λ c. third_of (times_at (a.form) c) (times_at (b.form) c) (times_at (l.form) c) (ap (λ f. times_at f c) ba) (ap (λ f. times_at f c) la) (n c) in
        let x = no_empty i a at_i zero in
        let y = no_empty j b at_j (λ c. ap (λ f. times_at f c) ba ∙ zero c) in
        let z = no_empty k l at_k (λ c. ap (λ f. times_at f c) la ∙ zero c) in
        less (a.bound) (b.bound) (l.bound) x y z neg
      where
        third_of : (x y z : ℤ) → y ≡ x → z ≡ x → x +ℤ (y +ℤ (z +ℤ pos 0)) ≡ pos 0 → x ≡ pos 0
        third_of x y z d e f = omega (arith, ints)

        less : (x y z : ℤ) → pos 0 ≤ℤ x → pos 0 ≤ℤ y → pos 0 ≤ℤ z → (x +ℤ (y +ℤ (z +ℤ pos 0))) <ℤ pos 0 → ⊥
        less x y z d e f n = absurd (omega (arith, ints))

    no_three : (i j k : ℕ) (a b l : Link) → slice_get links i ≡ Some a → slice_get links j ≡ Some b → slice_get links k ≡ Some l → AllDiffer (a ∷ b ∷ l ∷ []) → Sum0 a b l → bounds_of (a ∷ b ∷ l ∷ []) <ℤ pos 0 → ⊥
    no_three i j k a b l at_i at_j at_k h n neg = elim (told (l.form) (a.form)) [
      | inl la ↦ elim (told (b.form) (a.form)) [
        | inl ba ↦ all_one_form i j k a b l at_i at_j at_k ba la n neg
        | inr ba ↦ odd i k j a l b at_i at_k at_j (h.0.1.0) ba (λ e. ba (e ∙ la)) (ap first_of (sym la)) (λ c. middle (times_at (a.form) c) (times_at (b.form) c) (times_at (l.form) c) (n c)) (middle_less (a.bound) (b.bound) (l.bound) neg)
      ]
      | inr la ↦ elim (told (l.form) (b.form)) [
        | inl lb ↦ odd j k i b l a at_j at_k at_i (h.1.0.0) (λ e. la (lb ∙ sym e)) (λ e. la (sym e)) (ap first_of (sym lb)) (λ c. last (times_at (a.form) c) (times_at (b.form) c) (times_at (l.form) c) (n c)) (last_less (a.bound) (b.bound) (l.bound) neg)
        | inr lb ↦ elim (told (b.form) (a.form)) [
          | inl ba ↦ odd i j k a b l at_i at_j at_k (h.0.0) la lb (ap first_of (sym ba)) n neg
          | inr ba ↦ elim (two_begin (a.form) (b.form) (l.form) (ordered i a at_i) (ordered j b at_j) (ordered k l at_k) n) [
            | inl e ↦ odd i j k a b l at_i at_j at_k (h.0.0) la lb e n neg
            | inr s ↦ elim s [
              | inl e ↦ odd i k j a l b at_i at_k at_j (h.0.1.0) ba (λ f. lb (sym f)) e (λ c. middle (times_at (a.form) c) (times_at (b.form) c) (times_at (l.form) c) (n c)) (middle_less (a.bound) (b.bound) (l.bound) neg)
              | inr e ↦ odd j k i b l a at_j at_k at_i (h.1.0.0) (λ f. ba (sym f)) (λ f. la (sym f)) e (λ c. last (times_at (a.form) c) (times_at (b.form) c) (times_at (l.form) c) (n c)) (last_less (a.bound) (b.bound) (l.bound) neg)
            ]
          ]
        ]
      ]
    ]
      where
        middle : (x y z : ℤ) → x +ℤ (y +ℤ (z +ℤ pos 0)) ≡ pos 0 → x +ℤ (z +ℤ (y +ℤ pos 0)) ≡ pos 0
        middle x y z e = omega (arith, ints)

        middle_less : (x y z : ℤ) → (x +ℤ (y +ℤ (z +ℤ pos 0))) <ℤ pos 0 → (x +ℤ (z +ℤ (y +ℤ pos 0))) <ℤ pos 0
        middle_less x y z e = omega (arith, ints)

        last : (x y z : ℤ) → x +ℤ (y +ℤ (z +ℤ pos 0)) ≡ pos 0 → y +ℤ (z +ℤ (x +ℤ pos 0)) ≡ pos 0
        last x y z e = omega (arith, ints)

        last_less : (x y z : ℤ) → (x +ℤ (y +ℤ (z +ℤ pos 0))) <ℤ pos 0 → (y +ℤ (z +ℤ (x +ℤ pos 0))) <ℤ pos 0
        last_less x y z e = omega (arith, ints)

    no_short : (ks : List ℕ) (ls : List Link) (total : ℤ) → length ks ≤ 3 → Picks links ks ls → AllDiffer ls → ((c : ℕ) → times_in ls c ≡ pos 0) → total ≡ bounds_of ls → total <ℤ pos 0 → ⊥
    no_short [] [] total few p h n s neg = let e : pos 0 <ℤ pos 0 = subst (λ z. z <ℤ pos 0) s neg in absurd (omega (arith, ints))
    no_short [] (l ∷ ls) total few p h n s neg = p
    no_short (k ∷ ks) [] total few p h n s neg = p
    no_short (i ∷ []) (a ∷ []) total few p h n s neg = no_one i a (p.0) n (subst (λ z. z <ℤ pos 0) s neg)
    no_short (i ∷ []) (a ∷ b ∷ ls) total few p h n s neg = p.1
    no_short (i ∷ j ∷ ks) (a ∷ []) total few p h n s neg = p.1
    no_short (i ∷ j ∷ []) (a ∷ b ∷ []) total few p h n s neg = no_two i j a b (p.0) (p.1.0) n (subst (λ z. z <ℤ pos 0) s neg)
    no_short (i ∷ j ∷ []) (a ∷ b ∷ l ∷ ls) total few p h n s neg = p.1.1
    no_short (i ∷ j ∷ k ∷ ks) (a ∷ b ∷ []) total few p h n s neg = p.1.1
    no_short (i ∷ j ∷ k ∷ []) (a ∷ b ∷ l ∷ []) total few p h n s neg = no_three i j k a b l (p.0) (p.1.0) (p.1.1.0) h n (subst (λ z. z <ℤ pos 0) s neg)
    no_short (i ∷ j ∷ k ∷ []) (a ∷ b ∷ l ∷ m ∷ ls) total few p h n s neg = p.1.1.1
    no_short (i ∷ j ∷ k ∷ q ∷ ks) (a ∷ b ∷ l ∷ ls) total few p h n s neg = absurd (omega arith)

    pub no_refutation : (ks : List ℕ) (total : ℤ) → IsRefuted links ks total → ⊥
    no_refutation ks total r = elim r [
      | inl c ↦ none_where_met (map step_of links) d meets ks total c
      | inr s ↦ no_short ks s.picked total s.few s.picks s.differ s.nothing s.sum s.negative
    ]
