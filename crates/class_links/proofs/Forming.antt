-- Forms over classes, put together class by class.
use Rattle.std.proofs.Common.{◌≡◌, ◌≢◌, ◌⊎◌, ℕ, zero, suc, ◌+◌, ◌<◌, ◌≤◌, Bool, true, false, if◌then◌else◌, List, [], ◌∷◌, ◌++◌, length, get_or, take, refl, sym, ◌∙◌, ap, subst, inl, inr, arith}
use Rattle.std.specs.Prelude.{ℤ, pos, neg_ℤ, ◌+ℤ◌, Option, Some, None}
use Rattle.std.specs.Ordering.{int_eq}
use Rattle.std.specs.Cmp.{signed_Decides}
use Rattle.std.proofs.lemmas.Bool.{cases_lt}
use Rattle.std.proofs.lemmas.Int.{ints}
use Rattle.std.proofs.lemmas.List.{take_more}
use Rattle.linear_chains.specs.Links.{Form, Link, IsAbove, IsOrdered, times_at}
use Rattle.linear_chains.specs.Sums.{IsBelow, with_part}
use Rattle.same_places.specs.Same.{Part}
use Rattle.branch_links.specs.BranchLinks.{IsWithin}
use Rattle.branch_links.proofs.Sides.{here, told, here_same, here_other}
use Rattle.class_links.specs.ClassForms.{numbers_of, part_at, times_of, IsClassLink, IsNext, IsAtomOf, IsFormBelow, IsFormOf}

-- ---- coefficients, one part more

times_last : (class : ℕ → ℕ) (look : ℕ → Option ℤ) (ps : List Part) (p : Part) (c : ℕ) → times_of class look (ps ++ p ∷ []) c ≡ times_of class look ps c +ℤ part_at class look p c
times_last class look [] p c = turn (part_at class look p c)
  where
    turn : (x : ℤ) → x +ℤ pos 0 ≡ pos 0 +ℤ x
    turn x = omega (arith, ints)
times_last class look (q ∷ ps) p c = let r = times_last class look ps p c in grouped (part_at class look q c) (times_of class look (ps ++ p ∷ []) c) (times_of class look ps c) (part_at class look p c) r
  where
    grouped : (a b d e : ℤ) → b ≡ d +ℤ e → a +ℤ b ≡ (a +ℤ d) +ℤ e
    grouped a b d e f = omega (arith, ints)

pub times_more : (class : ℕ → ℕ) (look : ℕ → Option ℤ) (ps : List Part) (i : ℕ) (c : ℕ) → i < length ps → times_of class look (take (i + 1) ps) c ≡ times_of class look (take i ps) c +ℤ part_at class look (get_or ps i (0, pos 0)) c
times_more class look ps i c l = ap (λ qs. times_of class look qs c) (take_more ps i (0, pos 0) l) ∙ times_last class look (take i ps) (get_or ps i (0, pos 0)) c

-- ---- the next class

two_zeros : (x y : ℤ) → x ≡ pos 0 → y ≡ pos 0 → x +ℤ y ≡ pos 0
two_zeros x y d e = omega (arith, ints)

pub next_same : (f g : ℕ → ℤ) (from : ℕ) (o : Option ℕ) → ((c : ℕ) → f c ≡ g c) → IsNext f from o → IsNext g from o
next_same f g from None same h = λ c l. sym (same c) ∙ h c l
next_same f g from (Some d) same h = (h.0, λ c l k. sym (same c) ∙ h.1 c l k)

take_whole : (ps : List Part) (n : ℕ) → length ps ≤ n → take n ps ≡ ps
take_whole [] zero l = refl
take_whole [] (suc n) l = refl
take_whole (p ∷ ps) zero l = absurd (omega arith)
take_whole (p ∷ ps) (suc n) l = ap (λ qs. p ∷ qs) (take_whole ps n (omega arith))

pub next_whole : (class : ℕ → ℕ) (look : ℕ → Option ℤ) (ps : List Part) (i from : ℕ) (o : Option ℕ) → length ps ≤ i → IsNext (times_of class look (take i ps)) from o → IsNext (times_of class look ps) from o
next_whole class look ps i from o l h = subst (λ qs. IsNext (times_of class look qs) from o) (take_whole ps i l) h

module _ (f g : ℕ → ℤ) (from : ℕ) where
  pub next_kept : (best : Option ℕ) → IsNext f from best → ((c : ℕ) → from ≤ c → g c ≡ pos 0) → IsNext (λ c. f c +ℤ g c) from best
  next_kept None h n = λ c l. two_zeros (f c) (g c) (h c l) (n c l)
  next_kept (Some d) h n = (h.0, λ c l k. two_zeros (f c) (g c) (h.1 c l k) (n c l))

  pub next_first : (class : ℕ) → IsNext f from None → IsAtomOf g (Some class) → from ≤ class → IsNext (λ c. f c +ℤ g c) from (Some class)
  next_first class h a l = (l, λ c b k. two_zeros (f c) (g c) (h c b) (a c (λ e. absurd (omega (arith, e, k)))))

  pub next_lower : (class other : ℕ) → IsNext f from (Some other) → IsAtomOf g (Some class) → from ≤ class → class < other → IsNext (λ c. f c +ℤ g c) from (Some class)
  next_lower class other h a l m = (l, λ c b k. two_zeros (f c) (g c) (h.1 c b (omega arith)) (a c (λ e. absurd (omega (arith, e, k)))))

  pub next_other : (class other : ℕ) → IsNext f from (Some other) → IsAtomOf g (Some class) → other ≤ class → IsNext (λ c. f c +ℤ g c) from (Some other)
  next_other class other h a m = (h.0, λ c b k. two_zeros (f c) (g c) (h.1 c b k) (a c (λ e. absurd (omega (arith, e, k, m)))))

-- ---- forms of all classes below one

nothing_within : IsWithin (pos 0)
nothing_within = (omega (arith, ints), omega (arith, ints))

not_there : (f : Form) (from c : ℕ) → IsBelow f from → from ≤ c → times_at f c ≡ pos 0
not_there [] from c b l = refl
not_there (p ∷ f) from c b l = elim (told (p.0) c) [
  | inl e ↦ let s = e.0 in let k = b.0 in absurd (omega arith)
  | inr n ↦ two_zeros (here (p.0) c (p.1)) (times_at f c) (here_other (p.0) c (p.1) n.1) (not_there f from c b.1 l)
]

below_more : (f : Form) (from next : ℕ) → IsBelow f from → from ≤ next → IsBelow f next
below_more [] from next b l = tt
below_more (p ∷ f) from next b l = ((let k = b.0 in omega arith), below_more f from next b.1 l)

above_last : (f : Form) (d c : ℕ) (z : ℤ) → IsAbove d f → d < c → IsAbove d (f ++ (c, z) ∷ [])
above_last [] d c z a l = l
above_last (p ∷ f) d c z a l = a

ordered_last : (f : Form) (c : ℕ) (z : ℤ) → IsOrdered f → IsBelow f c → z ≢ pos 0 → IsOrdered (f ++ (c, z) ∷ [])
ordered_last [] c z o b n = (n, tt, tt)
ordered_last (p ∷ f) c z o b n = (o.0, above_last f (p.0) c z o.1 b.0, ordered_last f c z o.2 b.1 n)

below_last : (f : Form) (c from next : ℕ) (z : ℤ) → IsBelow f from → from ≤ next → c < next → IsBelow (f ++ (c, z) ∷ []) next
below_last [] c from next z b l k = (k, tt)
below_last (p ∷ f) c from next z b l k = ((let m = b.0 in omega arith), below_last f c from next z b.1 l k)

times_put : (f : Form) (c d : ℕ) (z : ℤ) → times_at (f ++ (c, z) ∷ []) d ≡ times_at f d +ℤ here c d z
times_put [] c d z = turn (here c d z)
  where
    turn : (x : ℤ) → x +ℤ pos 0 ≡ pos 0 +ℤ x
    turn x = omega (arith, ints)
times_put (p ∷ f) c d z = let r = times_put f c d z in grouped (here (p.0) d (p.1)) (times_at (f ++ (c, z) ∷ []) d) (times_at f d) (here c d z) r
  where
    grouped : (a b e g : ℤ) → b ≡ e +ℤ g → a +ℤ b ≡ (a +ℤ e) +ℤ g
    grouped a b e g h = omega (arith, ints)

zero_told : (z : ℤ) → ((z ≡ pos 0) × (int_eq z (pos 0) ≡ true)) ⊎ ((z ≢ pos 0) × (int_eq z (pos 0) ≡ false))
zero_told z = go (int_eq z (pos 0)) refl
  where
    go : (t : Bool) → int_eq z (pos 0) ≡ t → ((z ≡ pos 0) × (int_eq z (pos 0) ≡ true)) ⊎ ((z ≢ pos 0) × (int_eq z (pos 0) ≡ false))
    go true e = inl ((signed_Decides z (pos 0)).0 e, e)
    go false e = inr ((λ h. let t = (signed_Decides z (pos 0)).1 h in absurd cc), e)

module _ (times : ℕ → ℤ) where
  pub form_none : IsFormBelow times [] 0
  form_none = record { ordered = tt; below = tt; same = λ c l. absurd (omega arith); within = λ c l. absurd (omega arith) }

  module _ (form : Form) (from class : ℕ) (z : ℤ) (f : IsFormBelow times form from) (next : IsNext times from (Some class)) (is : z ≡ times class) (small : IsWithin z) where
    -- a class below the next one, or that one
    which : (c : ℕ) → c < class + 1 → (c < from) ⊎ (((from ≤ c) × (c < class)) ⊎ (c ≡ class))
    which c l = elim (cases_lt c from) [
      | inl b ↦ inl b
      | inr g ↦ elim (cases_lt c class) [ inl b ↦ inr (inl (g, b)) | inr h ↦ inr (inr (omega arith)) ]
    ]

    within_put : (c : ℕ) → c < class + 1 → IsWithin (times c)
    within_put c l = elim (which c l) [
      | inl b ↦ f.within c b
      | inr r ↦ elim r [ inl b ↦ subst IsWithin (sym (next.1 c b.0 b.1)) nothing_within | inr e ↦ subst IsWithin (is ∙ ap times (sym e)) small ]
    ]

    zero_put : z ≡ pos 0 → IsFormBelow times form (class + 1)
    zero_put none = record {
      ordered = f.ordered;
      below = below_more form from (class + 1) (f.below) (let l = next.0 in omega arith);
      same = λ c l. elim (which c l) [
        | inl b ↦ f.same c b
        | inr r ↦ elim r [
          | inl b ↦ not_there form from c (f.below) b.0 ∙ sym (next.1 c b.0 b.1)
          | inr e ↦ not_there form from c (f.below) (let k = next.0 in omega arith) ∙ sym (ap times e ∙ sym is ∙ none)
        ]
      ];
      within = within_put;
    }

    part_put : z ≢ pos 0 → IsFormBelow times (form ++ (class, z) ∷ []) (class + 1)
    part_put some = record {
      ordered = ordered_last form class z (f.ordered) (below_more form from class (f.below) (next.0)) some;
      below = below_last form class from (class + 1) z (f.below) (let l = next.0 in omega arith) (omega arith);
      same = λ c l. times_put form class c z ∙ (elim (which c l) [
        | inl b ↦ plus_zero (times_at form c) (here class c z) (times c) (f.same c b) (other c (λ e. let k = next.0 in absurd (omega (arith, e, b, k))))
        | inr r ↦ elim r [
          | inl b ↦ two_zeros (times_at form c) (here class c z) (not_there form from c (f.below) b.0) (other c (λ e. absurd (omega (arith, e, b)))) ∙ sym (next.1 c b.0 b.1)
          | inr e ↦ zero_plus (times_at form c) (here class c z) (times c) (not_there form from c (f.below) (let k = next.0 in omega arith)) (itself c e ∙ is ∙ ap times (sym e))
        ]
      ]);
      within = within_put;
    }
      where
        plus_zero : (a b d : ℤ) → a ≡ d → b ≡ pos 0 → a +ℤ b ≡ d
        plus_zero a b d h k = omega (arith, ints)

        zero_plus : (a b d : ℤ) → a ≡ pos 0 → b ≡ d → a +ℤ b ≡ d
        zero_plus a b d h k = omega (arith, ints)

        other : (c : ℕ) → class ≢ c → here class c z ≡ pos 0
        other c n = elim (told class c) [ inl e ↦ absurd (n e.0) | inr e ↦ here_other class c z e.1 ]

        itself : (c : ℕ) → c ≡ class → here class c z ≡ z
        itself c e = elim (told class c) [ inl d ↦ here_same class c z d.1 | inr d ↦ absurd (d.0 (sym e)) ]

    pub form_more : (form' : Form) → form' ≡ with_part form class z → IsFormBelow times form' (class + 1)
    form_more form' e = elim (zero_told z) [
      | inl p ↦ subst (λ g. IsFormBelow times g (class + 1)) (sym (e ∙ ap (λ t. if t then form else form ++ (class, z) ∷ []) p.1)) (zero_put p.0)
      | inr p ↦ subst (λ g. IsFormBelow times g (class + 1)) (sym (e ∙ ap (λ t. if t then form else form ++ (class, z) ∷ []) p.1)) (part_put p.0)
    ]

  pub form_all : (form : Form) (from : ℕ) → IsFormBelow times form from → IsNext times from None → IsFormOf times form
  form_all form from f next = record {
    ordered = f.ordered;
    same = λ c. elim (cases_lt c from) [ inl b ↦ f.same c b | inr g ↦ not_there form from c (f.below) g ∙ sym (next c g) ];
    within = λ c. elim (cases_lt c from) [ inl b ↦ f.within c b | inr g ↦ subst IsWithin (sym (next c g)) nothing_within ];
  }

-- ---- links

within_turned : (z : ℤ) → IsWithin z → IsWithin (neg_ℤ z)
within_turned z w = let a = w.0 in let b = w.1 in (omega (arith, ints), omega (arith, ints))

-- a link of a bound and a form of all classes
pub link_made : (class : ℕ → ℕ) (look : ℕ → Option ℤ) (ps : List Part) (constant : ℤ) (l : Link) (form : Form) (bound z : ℤ) → l.form ≡ form → l.bound ≡ bound → bound ≡ neg_ℤ z → z ≡ constant +ℤ numbers_of class look ps → IsWithin z → IsFormOf (times_of class look ps) form → IsClassLink class look ps constant l
link_made class look ps constant l form bound z e d t s w f = record {
  bound = d ∙ t ∙ ap neg_ℤ s;
  ordered = subst IsOrdered (sym e) (f.ordered);
  same = λ c. ap (λ g. times_at g c) e ∙ f.same c;
  within = record { bound = subst (λ y. IsWithin (neg_ℤ y)) s (within_turned z w); times = f.within };
}
