-- Scopes one within the other.
use Rattle.std.proofs.Common.{◌≡◌, ℕ, zero, suc, ◌+◌, ◌-◌, ◌<◌, ◌≤◌, Bool, true, false, List, [], ◌∷◌, ◌++◌, length, take, drop, get_or, Option, Some, None, Result, Ok, Err, OnOk, is_some, refl, sym, ap, ◌∙◌, arith, length-append}
use Rattle.std.specs.Option.{option_or}
use Rattle.std.proofs.Math.ListN.{set}
use Rattle.std.proofs.Math.Seq.{take-append_seam, get_or-append_seam}
use Rattle.std.proofs.lemmas.List.{at_drop_more}
use Rattle.name_table.specs.Names.{Names, meaning_of, is_free, declared}
use Rattle.name_table.specs.Nesting.{meaning_in, around, innermost, declared_in}
use Rattle.name_table.specs.Laws.{AllLack, IsInnermost, MeaningsAreInnermost, Hides, DeclarationsHide, Enters, ScopesAreEntered}
use Rattle.name_table.proofs.Declaring.{lacking, lacks, meanings_are_declared, declares}

or_none : {X : Type 0} (o : Option X) → option_or o None ≡ o
or_none None = refl
or_none (Some x) = refl

or_or : {X : Type 0} (o p q : Option X) → option_or (option_or o p) q ≡ option_or o (option_or p q)
or_or None p q = refl
or_or (Some x) p q = refl

-- ---- the innermost scope, and those around it

length_of_more : {X : Type 0} (xs : List X) (x : X) → length (xs ++ x ∷ []) - 1 ≡ length xs
length_of_more xs x = omega (arith, length-append xs (x ∷ []))

around_more : {V : Type 0} (ss : List (Names V)) (s : Names V) → around (ss ++ s ∷ []) ≡ ss
around_more ss s = ap (λ n. take n (ss ++ s ∷ [])) (length_of_more ss s) ∙ take-append_seam ss (s ∷ [])

innermost_more : {V : Type 0} (ss : List (Names V)) (s : Names V) → innermost (ss ++ s ∷ []) ≡ s
innermost_more ss s = ap (λ n. get_or (ss ++ s ∷ []) n []) (length_of_more ss s) ∙ get_or-append_seam ss s [] []

up_to_last : {X : Type 0} (xs : List X) (n : ℕ) (d : X) → length xs ≡ suc n → take n xs ++ get_or xs n d ∷ [] ≡ xs
up_to_last [] n d h = cc
up_to_last (x ∷ []) zero d h = refl
up_to_last (x ∷ y ∷ xs) zero d h = absurd (omega arith)
up_to_last (x ∷ xs) (suc n) d h = ap (λ l. x ∷ l) (up_to_last xs n d (omega arith))

last_set : {X : Type 0} (xs : List X) (n : ℕ) (y : X) → length xs ≡ suc n → set xs n y ≡ take n xs ++ y ∷ []
last_set [] n y h = cc
last_set (x ∷ []) zero y h = refl
last_set (x ∷ z ∷ xs) zero y h = absurd (omega arith)
last_set (x ∷ xs) (suc n) y h = ap (λ l. x ∷ l) (last_set xs n y (omega arith))

-- a write to the innermost of some scopes
written_there : {V : Type 0} (ss : List (Names V)) (n : ℕ) (s t : Names V) (x : List ℕ) (v : V) → n ≡ length ss → 0 < n → s ≡ get_or ss (n - 1) s → t ≡ declared s x v
    → set ss (n - 1) t ≡ declared_in ss x v
written_there ss n s t x v is some of made =
    let last : length ss ≡ suc (length ss - 1) = omega arith in
    let at : s ≡ innermost ss = of ∙ ap (λ m. get_or ss (m - 1) s) is ∙ of_any ss (length ss - 1) s [] last in
    ap (λ m. set ss (m - 1) t) is ∙ last_set ss (length ss - 1) t last ∙ ap (λ s. around ss ++ s ∷ []) (made ∙ ap (λ s. declared s x v) at)
  where
    of_any : {X : Type 0} (xs : List X) (n : ℕ) (d e : X) → length xs ≡ suc n → get_or xs n d ≡ get_or xs n e
    of_any [] n d e h = cc
    of_any (x ∷ xs) zero d e h = refl
    of_any (x ∷ y ∷ xs) (suc n) d e h = of_any (y ∷ xs) n d e (omega arith)
    of_any (x ∷ []) (suc n) d e h = absurd (omega arith)

pub written : {V E : Type 0} (r : Result Bool E) (ss : List (Names V)) (n : ℕ) (s t : Names V) (x : List ℕ) (v : V) → n ≡ length ss → 0 < n → s ≡ get_or ss (n - 1) s
    → OnOk r (t ≡ declared s x v) → OnOk r (set ss (n - 1) t ≡ declared_in ss x v)
written (Ok b) ss n s t x v is some of made = written_there ss n s t x v is some of made
written (Err e) ss n s t x v is some of made = tt

-- what a name means inside one scope more
inside_more : {V : Type 0} (ss : List (Names V)) (s : Names V) (x : List ℕ) → meaning_in (ss ++ s ∷ []) x ≡ option_or (meaning_of s x) (meaning_in ss x)
inside_more [] s x = sym (or_none (meaning_of s x))
inside_more (t ∷ ss) s x = ap (λ o. option_or o (meaning_of t x)) (inside_more ss s x) ∙ or_or (meaning_of s x) (meaning_in ss x) (meaning_of t x)

-- ---- looking from the inside out

hidden : {V : Type 0} (ss : List (Names V)) (i : ℕ) (x : List ℕ) (v : V) → meaning_in (drop i ss) x ≡ Some v → meaning_in ss x ≡ Some v
hidden [] zero x v h = h
hidden [] (suc i) x v h = h
hidden (s ∷ ss) zero x v h = h
hidden (s ∷ ss) (suc i) x v h = ap (λ o. option_or o (meaning_of s x)) (hidden ss i x v h)

one_out : {V : Type 0} (ss : List (Names V)) (left : ℕ) (s : Names V) (x : List ℕ) → 0 < left → left ≤ length ss → s ≡ get_or ss (left - 1) s → meaning_in (drop left ss) x ≡ None
    → meaning_in (drop (left - 1) ss) x ≡ meaning_of s x
one_out ss left s x some within is none =
    let e : left - 1 + 1 ≡ left = omega arith in
    at_drop_more (λ ss. meaning_in ss x) ss (left - 1) s (omega arith) ∙ ap (λ o. option_or o (meaning_of (get_or ss (left - 1) s) x)) (ap (λ n. meaning_in (drop n ss) x) e ∙ none) ∙ ap (λ s. meaning_of s x) (sym is)

-- a scope that has the name, where none inside it does
pub found_there : {V : Type 0} (ss : List (Names V)) (left : ℕ) (s : Names V) (x : List ℕ) (o : Option V) → 0 < left → left ≤ length ss → s ≡ get_or ss (left - 1) s
    → meaning_in (drop left ss) x ≡ None → o ≡ meaning_of s x → is_some o ≡ true → o ≡ meaning_in ss x
found_there ss left s x None some within is none there h = cc
found_there ss left s x (Some v) some within is none there h = sym (hidden ss (left - 1) x v (one_out ss left s x some within is none ∙ sym there))

-- and one that doesn't have it
pub none_there : {V : Type 0} (ss : List (Names V)) (left : ℕ) (s : Names V) (x : List ℕ) (o : Option V) → 0 < left → left ≤ length ss → s ≡ get_or ss (left - 1) s
    → meaning_in (drop left ss) x ≡ None → o ≡ meaning_of s x → is_some o ≡ false → meaning_in (drop (left - 1) ss) x ≡ None
none_there ss left s x None some within is none there h = one_out ss left s x some within is none ∙ sym there
none_there ss left s x (Some v) some within is none there h = cc

-- ---- what is found is declared in the innermost scope that declares it

all_lack : {V : Type 0} (ss : List (Names V)) (x : List ℕ) → meaning_in ss x ≡ None → AllLack ss x
all_lack [] x h = tt
all_lack {V} (s ∷ ss) x h = by (meaning_in ss x) refl h (all_lack ss x)
  where
    by : (o : Option V) → meaning_in ss x ≡ o → option_or o (meaning_of s x) ≡ None → (meaning_in ss x ≡ None → AllLack ss x) → AllLack (s ∷ ss) x
    by None e is rest = (lacks s x is, rest e)
    by (Some v) e is rest = cc

none_in : {V : Type 0} (ss : List (Names V)) (x : List ℕ) → AllLack ss x → meaning_in ss x ≡ None
none_in [] x h = refl
none_in (s ∷ ss) x h = ap (λ o. option_or o (meaning_of s x)) (none_in ss x h.1) ∙ lacking s x h.0

innermost_one : {V : Type 0} (ss : List (Names V)) (x : List ℕ) (v : V) → meaning_in ss x ≡ Some v → IsInnermost ss x v
innermost_one [] x v h = cc
innermost_one {V} (s ∷ ss) x v h = by (meaning_in ss x) refl h (innermost_one ss x v)
  where
    by : (o : Option V) → meaning_in ss x ≡ o → option_or o (meaning_of s x) ≡ Some v → (meaning_in ss x ≡ Some v → IsInnermost ss x v) → IsInnermost (s ∷ ss) x v
    by None e is rest = record { outer = []; scope = s; inner = ss; whole = refl; there = (meanings_are_declared s x v).0 is; hidden_by_none = all_lack ss x e }
    by (Some w) e is rest =
        let r = rest (e ∙ is) in
        record { outer = s ∷ r.outer; scope = r.scope; inner = r.inner; whole = ap (λ l. s ∷ l) r.whole; there = r.there; hidden_by_none = r.hidden_by_none }

through : {V : Type 0} (outer : List (Names V)) (s : Names V) (inner : List (Names V)) (x : List ℕ) (v : V) → meaning_of s x ≡ Some v → AllLack inner x
    → meaning_in (outer ++ s ∷ inner) x ≡ Some v
through [] s inner x v there none = ap (λ o. option_or o (meaning_of s x)) (none_in inner x none) ∙ there
through (t ∷ outer) s inner x v there none = ap (λ o. option_or o (meaning_of t x)) (through outer s inner x v there none)

pub meanings_are_innermost : {V : Type 0} → MeaningsAreInnermost V
meanings_are_innermost ss x v =
    (innermost_one ss x v, λ r. ap (λ ss. meaning_in ss x) r.whole ∙ through r.outer r.scope r.inner x v ((meanings_are_declared r.scope x v).1 r.there) r.hidden_by_none)

-- ---- declarations in the innermost scope

in_parts : {V : Type 0} (ss : List (Names V)) (x : List ℕ) → meaning_in ss x ≡ option_or (meaning_of (innermost ss) x) (meaning_in (around ss) x)
in_parts [] x = refl
in_parts (s ∷ ss) x = ap (λ ss. meaning_in ss x) (sym (up_to_last (s ∷ ss) (length (s ∷ ss) - 1) [] (omega arith))) ∙ inside_more (around (s ∷ ss)) (innermost (s ∷ ss)) x

pub hides : {V : Type 0} (ss : List (Names V)) (x : List ℕ) (v : V) → Hides ss x v
hides ss x v =
    let d = declares (innermost ss) x v in
    record {
      new = λ free. inside_more (around ss) (declared (innermost ss) x v) x ∙ ap (λ o. option_or o (meaning_in (around ss) x)) (d.new free);
      others = λ y ne. inside_more (around ss) (declared (innermost ss) x v) y ∙ ap (λ o. option_or o (meaning_in (around ss) y)) (d.others y ne) ∙ sym (in_parts ss y);
      left = around_more (around ss) (declared (innermost ss) x v);
    }

pub declarations_hide : {V : Type 0} → DeclarationsHide V
declarations_hide ss x v = hides ss x v

pub enters : {V : Type 0} (ss : List (Names V)) → Enters ss
enters {V} ss = record { same = λ x. inside_more ss [] x; free = λ x. ap (λ s. is_free s x) (innermost_more ss []); left = around_more ss [] }

pub scopes_are_entered : {V : Type 0} → ScopesAreEntered V
scopes_are_entered ss = enters ss
