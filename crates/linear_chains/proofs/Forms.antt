-- Forms in order: a form is what its coefficients are, and what two forms lack is made part by part.
use Rattle.std.proofs.Common.{◌≡◌, ◌≢◌, ◌⊎◌, ℕ, zero, suc, ◌+◌, ◌<◌, ◌≤◌, ◌==◌, Bool, true, false, if◌then◌else◌, length, map, List, [], ◌∷◌, ◌++◌, refl, sym, ◌∙◌, ap, subst, inl, inr, arith}
use Rattle.std.specs.Prelude.{ℤ, pos, negsuc, ◌+ℤ◌, neg_ℤ, ◌<ℤ◌, ◌≤ℤ◌, int_lt, Option, Some, None}
use Rattle.std.specs.Ordering.{int_eq}
use Rattle.std.specs.Cmp.{signed_Decides}
use Rattle.std.proofs.lemmas.Bool.{cases_lt}
use Rattle.std.proofs.lemmas.Int.{ints}
use Rattle.linear_chains.specs.Links.{Form, IsAbove, IsOrdered, times_at, positive, negative, turned}
use Rattle.linear_chains.specs.Sums.{IsOpposite, IsBelow, IsFrom, Precedes, Begins, IsFirst, Takes, with_part, Adding, first_of}

-- ---- small facts

told_nat : (a b : ℕ) → ((a ≡ b) × ((a == b) ≡ true)) ⊎ ((a ≢ b) × ((a == b) ≡ false))
told_nat a b = go (a == b) refl
  where
    go : (t : Bool) → (a == b) ≡ t → ((a ≡ b) × ((a == b) ≡ true)) ⊎ ((a ≢ b) × ((a == b) ≡ false))
    go true e = inl (grind (arith, e), e)
    go false e = inr ((λ h. grind (arith, e, h)), e)

-- the part of a coefficient that stands for class c where d is asked
abbrev here : ℕ → ℕ → ℤ → ℤ
here c d z = if c == d then z else pos 0

here_same : (c : ℕ) (z : ℤ) → here c c z ≡ z
here_same c z = elim (told_nat c c) [ inl p ↦ ap (λ t. if t then z else pos 0) (p.1) | inr p ↦ absurd (p.0 refl) ]

here_other : (c d : ℕ) (z : ℤ) → c ≢ d → here c d z ≡ pos 0
here_other c d z n = elim (told_nat c d) [ inl p ↦ absurd (n (p.0)) | inr p ↦ ap (λ t. if t then z else pos 0) (p.1) ]

two_zeros : (a b : ℤ) → a ≡ pos 0 → b ≡ pos 0 → a +ℤ b ≡ pos 0
two_zeros a b d e = omega (arith, ints)

-- ---- a form is what its coefficients are

three_places : (a b : ℕ) → (a < b) ⊎ ((b < a) ⊎ (a ≡ b))
three_places a b = elim (cases_lt a b) [
  | inl l ↦ inl l
  | inr g ↦ elim (cases_lt b a) [ inl l ↦ inr (inl l) | inr h ↦ inr (inr (omega arith)) ]
]

above_more : (c d : ℕ) (f : Form) → c ≤ d → IsAbove d f → IsAbove c f
above_more c d [] l a = tt
above_more c d (p ∷ f) l a = omega (arith, a)

nothing_before : (f : Form) (c d : ℕ) → IsOrdered f → IsAbove c f → d ≤ c → times_at f d ≡ pos 0
nothing_before [] c d o a l = refl
nothing_before (p ∷ f) c d o a l =
    let n : p.0 ≢ d = omega (arith, a) in
    two_zeros (here (p.0) d (p.1)) (times_at f d) (here_other (p.0) d (p.1) n) (nothing_before f c d (o.2) (above_more c (p.0) f (omega (arith, a)) (o.1)) l)

at_first : (p : ℕ × ℤ) (f : Form) → IsOrdered (p ∷ f) → times_at (p ∷ f) (p.0) ≡ p.1
at_first p f o = joined (here (p.0) (p.0) (p.1)) (times_at f (p.0)) (p.1) (here_same (p.0) (p.1)) (nothing_before f (p.0) (p.0) (o.2) (o.1) (omega arith))
  where
    joined : (a b c : ℤ) → a ≡ c → b ≡ pos 0 → a +ℤ b ≡ c
    joined a b c d e = omega (arith, ints)

same_rest : (a b x y : ℤ) → a ≡ b → a +ℤ x ≡ b +ℤ y → x ≡ y
same_rest a b x y d e = omega (arith, ints)

pub one_form : (f g : Form) → IsOrdered f → IsOrdered g → ((c : ℕ) → times_at f c ≡ times_at g c) → f ≡ g
one_form [] [] o q same = refl
one_form [] (r ∷ g) o q same = absurd ((q.0) (sym (same (r.0) ∙ at_first r g q)))
one_form (p ∷ f) [] o q same = absurd ((o.0) (sym (at_first p f o) ∙ same (p.0)))
one_form (p ∷ f) (r ∷ g) o q same = elim (three_places (p.0) (r.0)) [
  | inl l ↦ absurd ((o.0) (sym (at_first p f o) ∙ same (p.0) ∙ nothing_before (r ∷ g) (p.0) (p.0) q l (omega arith)))
  | inr s ↦ elim s [
    | inl l ↦ absurd ((q.0) (sym (at_first r g q) ∙ sym (same (r.0)) ∙ nothing_before (p ∷ f) (r.0) (r.0) o l (omega arith)))
    | inr e ↦
        let z : p.1 ≡ r.1 = sym (at_first p f o) ∙ same (p.0) ∙ ap (times_at (r ∷ g)) e ∙ at_first r g q in
        let rest = one_form f g (o.2) (q.2) (λ c. same_rest (here (p.0) c (p.1)) (here (r.0) c (r.1)) (times_at f c) (times_at g c) (λ i. here (e i) c (z i)) (same c)) in
        λ i. (e i, z i) ∷ rest i
  ]
]

-- ---- of three forms that leave nothing two begin with one class

abbrev LeaveNothing : Form → Form → Form → Type 0
LeaveNothing f g h = (c : ℕ) → times_at f c +ℤ (times_at g c +ℤ (times_at h c +ℤ pos 0)) ≡ pos 0

-- a form whose first class is below all of the other two isn't made up for
alone : (p : ℕ × ℤ) (f g h : Form) → IsOrdered (p ∷ f) → IsOrdered g → IsOrdered h → IsAbove (p.0) g → IsAbove (p.0) h → times_at (p ∷ f) (p.0) +ℤ (times_at g (p.0) +ℤ (times_at h (p.0) +ℤ pos 0)) ≡ pos 0 → ⊥
alone p f g h o q r a b e =
    o.0 (left_over (times_at (p ∷ f) (p.0)) (times_at g (p.0)) (times_at h (p.0)) (p.1) (at_first p f o) (nothing_before g (p.0) (p.0) q a (omega arith)) (nothing_before h (p.0) (p.0) r b (omega arith)) e)
  where
    left_over : (x y z w : ℤ) → x ≡ w → y ≡ pos 0 → z ≡ pos 0 → x +ℤ (y +ℤ (z +ℤ pos 0)) ≡ pos 0 → w ≡ pos 0
    left_over x y z w d e f g = omega (arith, ints)

second_first : (x y z : ℤ) → x +ℤ (y +ℤ (z +ℤ pos 0)) ≡ pos 0 → y +ℤ (x +ℤ (z +ℤ pos 0)) ≡ pos 0
second_first x y z e = omega (arith, ints)

third_first : (x y z : ℤ) → x +ℤ (y +ℤ (z +ℤ pos 0)) ≡ pos 0 → z +ℤ (x +ℤ (y +ℤ pos 0)) ≡ pos 0
third_first x y z e = omega (arith, ints)

alone_first : (p : ℕ × ℤ) (f g h : Form) → IsOrdered (p ∷ f) → IsOrdered g → IsOrdered h → LeaveNothing (p ∷ f) g h → IsAbove (p.0) g → IsAbove (p.0) h → ⊥
alone_first p f g h o q r n a b = alone p f g h o q r a b (n (p.0))

alone_second : (p : ℕ × ℤ) (f g h : Form) → IsOrdered f → IsOrdered (p ∷ g) → IsOrdered h → LeaveNothing f (p ∷ g) h → IsAbove (p.0) f → IsAbove (p.0) h → ⊥
alone_second p f g h o q r n a b = alone p g f h q o r a b (second_first (times_at f (p.0)) (times_at (p ∷ g) (p.0)) (times_at h (p.0)) (n (p.0)))

alone_third : (p : ℕ × ℤ) (f g h : Form) → IsOrdered f → IsOrdered g → IsOrdered (p ∷ h) → LeaveNothing f g (p ∷ h) → IsAbove (p.0) f → IsAbove (p.0) g → ⊥
alone_third p f g h o q r n a b = alone p h f g r o q a b (third_first (times_at f (p.0)) (times_at g (p.0)) (times_at (p ∷ h) (p.0)) (n (p.0)))

-- which two of three forms begin with one class
abbrev pub TwoBegin : Form → Form → Form → Type 0
TwoBegin f g h = (first_of f ≡ first_of g) ⊎ ((first_of f ≡ first_of h) ⊎ (first_of g ≡ first_of h))

pub two_begin : (f g h : Form) → IsOrdered f → IsOrdered g → IsOrdered h → LeaveNothing f g h → TwoBegin f g h
two_begin [] [] h o q r n = inl refl
two_begin [] (y ∷ g) [] o q r n = inr (inl refl)
two_begin [] (y ∷ g) (z ∷ h) o q r n = elim (three_places (y.0) (z.0)) [
  | inl l ↦ absurd (alone_second y [] g (z ∷ h) o q r n tt l)
  | inr s ↦ elim s [
    | inl l ↦ absurd (alone_third z [] (y ∷ g) h o q r n tt l)
    | inr e ↦ inr (inr (ap Some e))
  ]
]
two_begin (x ∷ f) [] [] o q r n = inr (inr refl)
two_begin (x ∷ f) [] (z ∷ h) o q r n = elim (three_places (x.0) (z.0)) [
  | inl l ↦ absurd (alone_first x f [] (z ∷ h) o q r n tt l)
  | inr s ↦ elim s [
    | inl l ↦ absurd (alone_third z (x ∷ f) [] h o q r n l tt)
    | inr e ↦ inr (inl (ap Some e))
  ]
]
two_begin (x ∷ f) (y ∷ g) [] o q r n = elim (three_places (x.0) (y.0)) [
  | inl l ↦ absurd (alone_first x f (y ∷ g) [] o q r n l tt)
  | inr s ↦ elim s [
    | inl l ↦ absurd (alone_second y (x ∷ f) g [] o q r n l tt)
    | inr e ↦ inl (ap Some e)
  ]
]
two_begin (x ∷ f) (y ∷ g) (z ∷ h) o q r n = elim (three_places (x.0) (y.0)) [
  | inl l ↦ elim (three_places (x.0) (z.0)) [
    | inl m ↦ absurd (alone_first x f (y ∷ g) (z ∷ h) o q r n l m)
    | inr s ↦ elim s [
      | inl m ↦ absurd (alone_third z (x ∷ f) (y ∷ g) h o q r n m (omega arith))
      | inr e ↦ inr (inl (ap Some e))
    ]
  ]
  | inr s ↦ elim s [
    | inl l ↦ elim (three_places (y.0) (z.0)) [
      | inl m ↦ absurd (alone_second y (x ∷ f) g (z ∷ h) o q r n l m)
      | inr t ↦ elim t [
        | inl m ↦ absurd (alone_third z (x ∷ f) (y ∷ g) h o q r n (omega arith) m)
        | inr e ↦ inr (inr (ap Some e))
      ]
    ]
    | inr e ↦ inl (ap Some e)
  ]
]

-- ---- parts behind a form

zero_added : (x : ℤ) → x ≡ x +ℤ pos 0
zero_added x = omega (arith, ints)

grouped : (a b c : ℤ) → a +ℤ (b +ℤ c) ≡ (a +ℤ b) +ℤ c
grouped a b c = omega (arith, ints)

times_append : (f g : Form) (c : ℕ) → times_at (f ++ g) c ≡ times_at f c +ℤ times_at g c
times_append [] g c = zero_before (times_at g c)
  where
    zero_before : (x : ℤ) → x ≡ pos 0 +ℤ x
    zero_before x = omega (arith, ints)
times_append (p ∷ f) g c = ap (λ z. here (p.0) c (p.1) +ℤ z) (times_append f g c) ∙ grouped (here (p.0) c (p.1)) (times_at f c) (times_at g c)

above_of_below : (f : Form) (c d : ℕ) (z : ℤ) → IsAbove d f → IsBelow f c → d < c → IsAbove d (f ++ (c, z) ∷ [])
above_of_below [] c d z a b l = l
above_of_below (p ∷ f) c d z a b l = a

ordered_more : (f : Form) (c : ℕ) (z : ℤ) → IsOrdered f → IsBelow f c → z ≢ pos 0 → IsOrdered (f ++ (c, z) ∷ [])
ordered_more [] c z o b n = (n, tt, tt)
ordered_more (p ∷ f) c z o b n = (o.0, above_of_below f c (p.0) z (o.1) (b.1) (b.0), ordered_more f c z (o.2) (b.1) n)

below_more : (f : Form) (c d : ℕ) (z : ℤ) → IsBelow f c → c < d → IsBelow (f ++ (c, z) ∷ []) d
below_more [] c d z b l = (l, tt)
below_more (p ∷ f) c d z b l = let q = b.0 in (omega arith, below_more f c d z (b.1) l)

below_rises : (f : Form) (c d : ℕ) → IsBelow f c → c < d → IsBelow f d
below_rises [] c d b l = tt
below_rises (p ∷ f) c d b l = let q = b.0 in (omega arith, below_rises f c d (b.1) l)

told_zero : (z : ℤ) → ((z ≡ pos 0) × (int_eq z (pos 0) ≡ true)) ⊎ ((z ≢ pos 0) × (int_eq z (pos 0) ≡ false))
told_zero z = go (int_eq z (pos 0)) refl
  where
    go : (t : Bool) → int_eq z (pos 0) ≡ t → ((z ≡ pos 0) × (int_eq z (pos 0) ≡ true)) ⊎ ((z ≢ pos 0) × (int_eq z (pos 0) ≡ false))
    go true e = inl ((signed_Decides z (pos 0)).0 e, e)
    go false e = inr ((λ h. let t = (signed_Decides z (pos 0)).1 h in absurd cc), e)

record WithPart (f : Form) (c : ℕ) (z : ℤ) (g : Form) : Type 0 where
  ordered : IsOrdered g
  below : (d : ℕ) → c < d → IsBelow g d
  same : (d : ℕ) → times_at g d ≡ times_at f d +ℤ here c d z

part_put : (f : Form) (c : ℕ) (z : ℤ) → IsOrdered f → IsBelow f c → WithPart f c z (with_part f c z)
part_put f c z o b = elim (told_zero z) [
  | inl p ↦ subst (WithPart f c z) (sym (ap (λ t. if t then f else f ++ (c, z) ∷ []) (p.1))) (record {
    ordered = o;
    below = λ d l. below_rises f c d b l;
    same = λ d. zero_added (times_at f d) ∙ ap (λ y. times_at f d +ℤ y) (sym (none d (p.0)));
  })
  | inr p ↦ subst (WithPart f c z) (sym (ap (λ t. if t then f else f ++ (c, z) ∷ []) (p.1))) (record {
    ordered = ordered_more f c z o b (p.0);
    below = λ d l. below_more f c d z b l;
    same = λ d. times_append f ((c, z) ∷ []) d ∙ ap (λ y. times_at f d +ℤ y) (sym (zero_added (here c d z)));
  })
]
  where
    none : (d : ℕ) → z ≡ pos 0 → here c d z ≡ pos 0
    none d e = elim (told_nat c d) [ inl q ↦ ap (λ t. if t then z else pos 0) (q.1) ∙ e | inr q ↦ here_other c d z (q.0) ]

-- ---- the least class is taken from both, and what it lacks to 0 is put behind the others

precedes_above : (f g : Form) (c : ℕ) → ((d : ℕ) → c < d → IsBelow f d) → IsAbove c g → Precedes f g
precedes_above f [] c b a = tt
precedes_above f (p ∷ g) c b a = b (p.0) a

below_first : (done f g : Form) (c : ℕ) → IsFirst f g c → Precedes done f → Precedes done g → IsBelow done c
below_first done f g c i a b = elim (i.begins) [ inl h ↦ go f h a | inr h ↦ go g h b ]
  where
    go : (f : Form) → Begins c f → Precedes done f → IsBelow done c
    go [] h a = absurd h
    go (p ∷ f) h a = subst (IsBelow done) h a

balance : (l r d f g f' g' zl zr z hl hr h d' : ℤ) → (l +ℤ r) +ℤ d ≡ f +ℤ g → f ≡ hl +ℤ f' → g ≡ hr +ℤ g' → h ≡ neg_ℤ (hl +ℤ hr) → d' ≡ d +ℤ h → (l +ℤ r) +ℤ d' ≡ f' +ℤ g'
balance l r d f g f' g' zl zr z hl hr h d' e a b c m = omega (arith, ints)

here_sum : (c d : ℕ) (x y : ℤ) → here c d (neg_ℤ (x +ℤ y)) ≡ neg_ℤ (here c d x +ℤ here c d y)
here_sum c d x y = go (c == d)
  where
    go : (t : Bool) → (if t then neg_ℤ (x +ℤ y) else pos 0) ≡ neg_ℤ ((if t then x else pos 0) +ℤ (if t then y else pos 0))
    go true = refl
    go false = refl

put_more : (left right done f g f' g' : Form) (c : ℕ) (zl zr : ℤ) → Adding left right done f g → IsFirst f g c → Takes f c zl f' → Takes g c zr g' → Adding left right (with_part done c (neg_ℤ (zl +ℤ zr))) f' g'
put_more left right done f g f' g' c zl zr a i t u =
    let p = part_put done c (neg_ℤ (zl +ℤ zr)) a.ordered (below_first done f g c i a.before_left a.before_right) in
    record {
      ordered = p.ordered;
      left_ordered = t.ordered;
      right_ordered = u.ordered;
      before_left = precedes_above _ f' c p.below t.above;
      before_right = precedes_above _ g' c p.below u.above;
      sum = λ d. balance (times_at left d) (times_at right d) (times_at done d) (times_at f d) (times_at g d) (times_at f' d) (times_at g' d) zl zr (neg_ℤ (zl +ℤ zr)) (here c d zl) (here c d zr) (here c d (neg_ℤ (zl +ℤ zr))) (times_at (with_part done c (neg_ℤ (zl +ℤ zr))) d) (a.sum d) (t.same d) (u.same d) (here_sum c d zl zr) (p.same d);
    }

pub adding_more : (left right done f g f' g' next : Form) (c : ℕ) (zl zr : ℤ) → next ≡ with_part done c (neg_ℤ (zl +ℤ zr)) → Adding left right done f g → IsFirst f g c → Takes f c zl f' → Takes g c zr g' → Adding left right next f' g'
adding_more left right done f g f' g' next c zl zr is a i t u = subst (λ z. Adding left right z f' g') (sym is) (put_more left right done f g f' g' c zl zr a i t u)

pub adding_none : (left right : Form) → IsOrdered left → IsOrdered right → Adding left right [] left right
adding_none left right l r = record {
  ordered = tt;
  left_ordered = l;
  right_ordered = r;
  before_left = before left;
  before_right = before right;
  sum = λ c. sym (zero_added (times_at left c +ℤ times_at right c));
}
  where
    before : (f : Form) → Precedes [] f
    before [] = tt
    before (p ∷ f) = tt

pub adding_all : (left right done f g : Form) → f ≡ [] → g ≡ [] → Adding left right done f g → IsOpposite left right done
adding_all left right done f g d e a = record {
  ordered = a.ordered;
  nothing = λ c. a.sum c ∙ two_zeros (times_at f c) (times_at g c) (ap (λ z. times_at z c) d) (ap (λ z. times_at z c) e);
}

-- fewer parts are left
pub adding_fewer : (f g f' g' : Form) (c : ℕ) (zl zr : ℤ) → IsFirst f g c → Takes f c zl f' → Takes g c zr g' → length f' + length g' < length f + length g
adding_fewer f g f' g' c zl zr i t u = elim (i.begins) [
  | inl h ↦ let a = t.fewer h in let b = u.no_more in omega arith
  | inr h ↦ let a = u.fewer h in let b = t.no_more in omega arith
]

-- ---- a class is taken from the front

pub takes_none : (c : ℕ) → Takes [] c (pos 0) []
takes_none c = record { ordered = tt; above = tt; same = λ d. same_nothing c d; fewer = λ b. absurd b; no_more = omega arith }
  where
    same_nothing : (c d : ℕ) → pos 0 ≡ here c d (pos 0) +ℤ pos 0
    same_nothing c d = go (c == d)
      where
        go : (t : Bool) → pos 0 ≡ (if t then pos 0 else pos 0) +ℤ pos 0
        go true = refl
        go false = refl

pub takes_one : (f g : Form) (p : ℕ × ℤ) (c : ℕ) (z : ℤ) → f ≡ p ∷ g → p.0 ≡ c → z ≡ p.1 → IsOrdered f → Takes f c z g
takes_one f g p c z e d h o =
    let o' : IsOrdered (p ∷ g) = subst IsOrdered e o in
    record {
      ordered = o'.2;
      above = subst (λ k. IsAbove k g) d (o'.1);
      same = λ k. ap (λ y. times_at y k) e ∙ (λ i. here (d i) k (sym h i) +ℤ times_at g k);
      fewer = λ b. let l = ap length e in omega arith;
      no_more = let l = ap length e in omega arith;
    }

pub takes_nothing : (f : Form) (c : ℕ) → IsOrdered f → IsFrom c f → (Begins c f → ⊥) → Takes f c (pos 0) f
takes_nothing f c o l n = record { ordered = o; above = over f l n; same = λ d. same_all f c d; fewer = λ b. absurd (n b); no_more = omega arith }
  where
    over : (f : Form) → IsFrom c f → (Begins c f → ⊥) → IsAbove c f
    over [] l n = tt
    over (p ∷ f) l n = let ne : p.0 ≢ c = n in omega arith

    same_all : (f : Form) (c d : ℕ) → times_at f d ≡ here c d (pos 0) +ℤ times_at f d
    same_all f c d = go (c == d)
      where
        zero_left : (x : ℤ) → x ≡ pos 0 +ℤ x
        zero_left x = omega (arith, ints)

        go : (t : Bool) → times_at f d ≡ (if t then pos 0 else pos 0) +ℤ times_at f d
        go true = zero_left (times_at f d)
        go false = zero_left (times_at f d)

-- ---- a form turned

neg_twice : (z : ℤ) → neg_ℤ (neg_ℤ z) ≡ z
neg_twice z = omega (arith, ints)

turned_twice : (p : ℕ × ℤ) → turned (turned p) ≡ p
turned_twice (c, z) = λ i. (c, neg_twice z i)

sign_turned : (z : ℤ) → int_lt (pos 0) (neg_ℤ z) ≡ int_lt z (pos 0)
sign_turned z = grind (arith, ints)

sign_back : (z : ℤ) → int_lt (neg_ℤ z) (pos 0) ≡ int_lt (pos 0) z
sign_back z = sym (sign_turned (neg_ℤ z)) ∙ ap (int_lt (pos 0)) (neg_twice z)

positive_turned : (f : Form) → positive (map turned f) ≡ negative f
positive_turned [] = refl
positive_turned (p ∷ f) = λ i. if sign_turned (p.1) i then turned p ∷ positive_turned f i else positive_turned f i

negative_turned : (f : Form) → negative (map turned f) ≡ positive f
negative_turned [] = refl
negative_turned (p ∷ f) = λ i. if sign_back (p.1) i then turned_twice p i ∷ negative_turned f i else negative_turned f i

turned_above : (c : ℕ) (f : Form) → IsAbove c f → IsAbove c (map turned f)
turned_above c [] a = tt
turned_above c (p ∷ f) a = a

turned_ordered : (f : Form) → IsOrdered f → IsOrdered (map turned f)
turned_ordered [] o = tt
turned_ordered (p ∷ f) o = ((λ h. o.0 (not_zero (p.1) h)), turned_above (p.0) f (o.1), turned_ordered f (o.2))
  where
    not_zero : (z : ℤ) → neg_ℤ z ≡ pos 0 → z ≡ pos 0
    not_zero z e = sym (neg_twice z) ∙ ap neg_ℤ e

turned_times : (f : Form) (c : ℕ) → times_at (map turned f) c ≡ neg_ℤ (times_at f c)
turned_times [] c = refl
turned_times (p ∷ f) c = (λ i. here (p.0) c (neg_ℤ (p.1)) +ℤ turned_times f c i) ∙ go (p.0 == c) (p.1) (times_at f c)
  where
    spread : (x y : ℤ) → neg_ℤ x +ℤ neg_ℤ y ≡ neg_ℤ (x +ℤ y)
    spread x y = omega (arith, ints)

    go : (t : Bool) (x y : ℤ) → (if t then neg_ℤ x else pos 0) +ℤ neg_ℤ y ≡ neg_ℤ ((if t then x else pos 0) +ℤ y)
    go true x y = spread x y
    go false x y = spread (pos 0) y

-- two forms that add up to nothing have each other's sides
pub record Turned (f g : Form) : Type 0 where
  pub from : positive g ≡ negative f
  pub to : negative g ≡ positive f

pub opposite_sides : (f g : Form) → IsOrdered f → IsOrdered g → ((c : ℕ) → times_at f c +ℤ times_at g c ≡ pos 0) → Turned f g
opposite_sides f g o q e =
    let same : g ≡ map turned f = one_form g (map turned f) q (turned_ordered f o) (λ c. rest (times_at f c) (times_at g c) (e c) ∙ sym (turned_times f c)) in
    record { from = ap positive same ∙ positive_turned f; to = ap negative same ∙ negative_turned f }
  where
    rest : (x y : ℤ) → x +ℤ y ≡ pos 0 → y ≡ neg_ℤ x
    rest x y e = omega (arith, ints)
