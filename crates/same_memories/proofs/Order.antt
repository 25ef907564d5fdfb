-- The order of entries by their addresses, and truth values.
use Rattle.std.proofs.Common.{◌≡◌, ◌⊎◌, inl, inr, Bool, true, false, ◌&&◌, ◌||◌, if◌then◌else◌, ℤ, ◌<ℤ◌, ◌≤ℤ◌, refl, sym, ap, ap₂, ◌∙◌, arith}
use Rattle.std.specs.Prelude.{int_lt, int_le}
use Rattle.std.specs.Ordering.{int_eq}
use Rattle.std.proofs.lemmas.Int.{ints}
use Rattle.std.proofs.lemmas.Bool.{false≢true, and_parts}
use Rattle.std.proofs.lemmas.Bool.Decides.{Decides-int_eq}
use Rattle.qed_terms.specs.Memory.{Entry, is_at}
use Rattle.same_memories.specs.Canonical.{is_before}

-- ---- truth values

-- a test in both its cases
pub on_test : {P : Type 0} (t : Bool) → (t ≡ true → P) → (t ≡ false → P) → P
on_test true f g = f refl
on_test false f g = g refl

pub not_both : {P : Type 0} (t : Bool) → t ≡ true → t ≡ false → P
not_both t so not_so = absurd (false≢true (sym not_so ∙ so))

never_true : (t : Bool) → (t ≡ true → ⊥) → t ≡ false
never_true true h = absurd (h refl)
never_true false h = refl

-- two tests that say the same
pub same_bools : (s t : Bool) → (s ≡ true → t ≡ true) → (t ≡ true → s ≡ true) → s ≡ t
same_bools true t f g = sym (f refl)
same_bools false true f g = g refl
same_bools false false f g = refl

pub chosen : {X : Type 0} (t : Bool) (x y : X) → t ≡ true → (if t then x else y) ≡ x
chosen t x y h = ap (λ t. if t then x else y) h

pub unchosen : {X : Type 0} (t : Bool) (x y : X) → t ≡ false → (if t then x else y) ≡ y
unchosen t x y h = ap (λ t. if t then x else y) h

pub both_so : (s t : Bool) → s ≡ true → t ≡ true → s && t ≡ true
both_so s t h k = ap₂ (λ s t. s && t) h k

either : (s t : Bool) → s || t ≡ true → (s ≡ true) ⊎ (t ≡ true)
either true t h = inl refl
either false t h = inr h

first_so : (s t : Bool) → s ≡ true → s || t ≡ true
first_so s t h = ap (λ s. s || t) h

pub second_so : (s t : Bool) → t ≡ true → s || t ≡ true
second_so true t h = refl
second_so false t h = h

-- ---- numbers

pub same_number : (a b : ℤ) → int_eq a b ≡ true → a ≡ b
same_number a b h = (Decides-int_eq a b).0 h

pub number_same : (a b : ℤ) → a ≡ b → int_eq a b ≡ true
number_same a b e = (Decides-int_eq a b).1 e

less_told : (a b : ℤ) → int_lt a b ≡ true → a <ℤ b
less_told a b h = omega (arith, ints)

pub less_so : (a b : ℤ) → a <ℤ b → int_lt a b ≡ true
less_so a b l = on_test (int_lt a b) (λ h. h) (λ h. absurd (omega (arith, ints)))

pub at_most_so : (a b : ℤ) → a ≤ℤ b → int_le a b ≡ true
at_most_so a b l = on_test (int_le a b) (λ h. h) (λ h. absurd (omega (arith, ints)))

-- ---- addresses

pub at_told : (b o : ℤ) (e : Entry) → is_at b o e ≡ true → (e.block ≡ b) × (e.offset ≡ o)
at_told b o e h = let both = and_parts (int_eq e.block b) (int_eq e.offset o) h in (same_number e.block b both.0, same_number e.offset o both.1)

pub at_so : (b o : ℤ) (e : Entry) → e.block ≡ b → e.offset ≡ o → is_at b o e ≡ true
at_so b o e p q = both_so (int_eq e.block b) (int_eq e.offset o) (number_same e.block b p) (number_same e.offset o q)

pub at_itself : (d : Entry) → is_at d.block d.offset d ≡ true
at_itself d = at_so d.block d.offset d refl refl

-- what is at the place of an entry is at that of another one there
pub at_other : (b o : ℤ) (d e : Entry) → is_at d.block d.offset e ≡ true → is_at b o e ≡ is_at b o d
at_other b o d e h = let p = at_told d.block d.offset e h in λ i. int_eq (p.0 i) b && int_eq (p.1 i) o

-- two entries at one address
at_one : (b o : ℤ) (d e : Entry) → is_at b o d ≡ true → is_at b o e ≡ true → is_at d.block d.offset e ≡ true
at_one b o d e h k = let p = at_told b o d h in let q = at_told b o e k in at_so d.block d.offset e (q.0 ∙ sym p.0) (q.1 ∙ sym p.1)

-- an entry elsewhere isn't at the place of this one
pub at_apart : (b o : ℤ) (d e : Entry) → is_at d.block d.offset e ≡ false → is_at b o d ≡ true → is_at b o e ≡ false
at_apart b o d e apart h = never_true (is_at b o e) (λ k. not_both (is_at d.block d.offset e) (at_one b o d e h k) apart)

-- ---- the order

abbrev Before : Entry → Entry → Type 0
Before d e = (d.block <ℤ e.block) ⊎ ((d.block ≡ e.block) × (d.offset <ℤ e.offset))

before_told : (d e : Entry) → is_before d e ≡ true → Before d e
before_told d e h = by (either (int_lt d.block e.block) (int_eq d.block e.block && int_lt d.offset e.offset) h)
  where
    by : (int_lt d.block e.block ≡ true) ⊎ ((int_eq d.block e.block && int_lt d.offset e.offset) ≡ true) → Before d e
    by (inl l) = inl (less_told d.block e.block l)
    by (inr s) =
        let both = and_parts (int_eq d.block e.block) (int_lt d.offset e.offset) s in
        inr (same_number d.block e.block both.0, less_told d.offset e.offset both.1)

before_so : (d e : Entry) → Before d e → is_before d e ≡ true
before_so d e (inl l) = first_so (int_lt d.block e.block) (int_eq d.block e.block && int_lt d.offset e.offset) (less_so d.block e.block l)
before_so d e (inr s) =
    second_so (int_lt d.block e.block) (int_eq d.block e.block && int_lt d.offset e.offset)
    (both_so (int_eq d.block e.block) (int_lt d.offset e.offset) (number_same d.block e.block s.0) (less_so d.offset e.offset s.1))

before_both : (c d e : Entry) → Before c d → Before d e → Before c e
before_both c d e (inl k) (inl l) = inl (omega (arith, ints))
before_both c d e (inl k) (inr l) = let same = l.0 in inl (omega (arith, ints))
before_both c d e (inr k) (inl l) = let same = k.0 in inl (omega (arith, ints))
before_both c d e (inr k) (inr l) =
    let x = k.1 in
    let y = l.1 in
    inr (k.0 ∙ l.0, omega (arith, ints))

pub before_trans : (c d e : Entry) → is_before c d ≡ true → is_before d e ≡ true → is_before c e ≡ true
before_trans c d e h k = before_so c e (before_both c d e (before_told c d h) (before_told d e k))

not_itself : (d e : Entry) → Before d e → d.block ≡ e.block → d.offset ≡ e.offset → ⊥
not_itself d e (inl l) p q = omega (arith, ints)
not_itself d e (inr s) p q = let l = s.1 in omega (arith, ints)

-- no two of one place are before each other
pub before_apart : (d e : Entry) → is_before d e ≡ true → is_at d.block d.offset e ≡ false
before_apart d e h =
    never_true (is_at d.block d.offset e) (λ k. let p = at_told d.block d.offset e k in not_itself d e (before_told d e h) (sym p.0) (sym p.1))

-- what is before another one has each one at its place before it too
pub before_there : (d e f : Entry) → is_at d.block d.offset e ≡ true → is_before e f ≡ true → is_before d f ≡ true
before_there d e f h k =
    let p = at_told d.block d.offset e h in
    (λ i. int_lt (sym p.0 i) f.block || (int_eq (sym p.0 i) f.block && int_lt (sym p.1 i) f.offset)) ∙ k

-- of two places one is before the other, or they are one
pub turned : (d e : Entry) → is_before d e ≡ false → is_at d.block d.offset e ≡ false → is_before e d ≡ true
turned d e no_before no_at =
    on_test (int_lt d.block e.block) (λ l. not_both (is_before d e) (before_so d e (inl (less_told d.block e.block l))) no_before)
    (λ not_less. on_test (int_lt e.block d.block) (λ l. before_so e d (inl (less_told e.block d.block l)))
    (λ not_more. same_block (omega (arith, ints))))
  where
    same_place : d.block ≡ e.block → d.offset ≡ e.offset → is_before e d ≡ true
    same_place p q = not_both (is_at d.block d.offset e) (at_so d.block d.offset e (sym p) (sym q)) no_at

    same_block : d.block ≡ e.block → is_before e d ≡ true
    same_block p =
        on_test (int_lt d.offset e.offset) (λ l. not_both (is_before d e) (before_so d e (inr (p, less_told d.offset e.offset l))) no_before)
        (λ not_less. on_test (int_lt e.offset d.offset) (λ l. before_so e d (inr (sym p, less_told e.offset d.offset l)))
        (λ not_more. same_place p (omega (arith, ints))))
