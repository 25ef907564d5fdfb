-- Names of slots that stand for any value at the start differ.
use Rattle.std.proofs.Common.{◌≡◌, ◌<◌, ℕ, zero, suc, Bool, true, false, List, [], ◌∷◌, ◌++◌, length, take, get_or, codes, refl, ap, sym, ◌∙◌, subst, true≢false, arith, append-nil}
use Rattle.std.specs.Prelude.{◌||◌, not}
use Rattle.std.specs.List.{list_all}
use Rattle.std.specs.Str.{bytes_eq}
use Rattle.std.proofs.lemmas.Slice.Eq.{bytes_eq-Decides}
use Rattle.std.proofs.lemmas.Bool.{and_parts, not-true}
use Rattle.qed_terms.specs.Fresh.{Lacks}
use Rattle.slot_names.specs.Bases.{Name, is_among, is_c_byte, is_c_name, begins_well, hides, shown_as, differ}
use Rattle.memory_names.specs.Names.{first_name}

-- ---- before a colon, and from it on

abbrev pub colon : ℕ
colon = 58

-- it begins with a colon, or there is nothing
abbrev pub Starts : Name → Type 0
Starts [] = Unit {0}
Starts (b ∷ s) = b ≡ colon

abbrev first_of : Name → ℕ
first_of [] = 0
first_of (b ∷ x) = b

abbrev rest_of : Name → Name
rest_of [] = []
rest_of (b ∷ x) = x

nothing_there : (b : ℕ) (x : Name) → [] ≡ b ∷ x → ⊥
nothing_there b x e = true≢false (ap is_nothing e)
  where
    is_nothing : Name → Bool
    is_nothing [] = true
    is_nothing (b ∷ x) = false

-- what begins so doesn't begin with a byte that is no colon
no_start : (b : ℕ) (s z : Name) → (b ≡ colon → ⊥) → Starts s → s ≡ b ∷ z → ⊥
no_start b [] z n k e = nothing_there b z e
no_start b (c ∷ s) z n k e = n (sym (ap first_of e) ∙ k)

pub parts : (x y s t : Name) → Lacks colon x → Lacks colon y → Starts s → Starts t → x ++ s ≡ y ++ t → (x ≡ y) × (s ≡ t)
parts [] [] s t l m h k e = (refl, e)
parts [] (c ∷ y) s t l m h k e = absurd (no_start c s (y ++ t) m.0 h e)
parts (b ∷ x) [] s t l m h k e = absurd (no_start b t (x ++ s) l.0 k (sym e))
parts (b ∷ x) (c ∷ y) s t l m h k e = let rest = parts x y s t l.1 m.1 h k (ap rest_of e) in ((λ i. ap first_of e i ∷ rest.0 i), rest.1)

-- ---- names of C, with and without a mark

c_lacks : (x : Name) → list_all is_c_byte x ≡ true → Lacks colon x
c_lacks [] h = tt
c_lacks (b ∷ x) h =
    let both = and_parts (is_c_byte b) (list_all is_c_byte x) h in
    ((λ e. true≢false (sym both.0 ∙ ap is_c_byte e)), c_lacks x both.1)

pub shown_lacks : (hidden : Bool) (x : Name) → is_c_name x ≡ true → Lacks colon (shown_as hidden x)
shown_lacks true x h = ((λ e. omega (arith, e)), c_lacks x (and_parts (begins_well x) (list_all is_c_byte x) h).1)
shown_lacks false x h = c_lacks x (and_parts (begins_well x) (list_all is_c_byte x) h).1

no_mark : (x : Name) → is_c_name (hides x) ≡ true → ⊥
no_mark x h = true≢false (sym h)

-- what is marked is no name of C
pub marked_apart : (x y : Name) → is_c_name x ≡ true → x ≡ hides y → ⊥
marked_apart x y h e = no_mark y (subst (λ z. is_c_name z ≡ true) e h)

pub unshown : (a b : Bool) (x y : Name) → is_c_name x ≡ true → is_c_name y ≡ true → shown_as a x ≡ shown_as b y → x ≡ y
unshown true true x y h k e = ap rest_of e
unshown true false x y h k e = absurd (marked_apart y x k (sym e))
unshown false true x y h k e = absurd (marked_apart x y h e)
unshown false false x y h k e = e

-- ---- names that differ

pub among_at : (xs : List Name) (i : ℕ) → i < length xs → is_among (get_or xs i []) xs ≡ true
among_at [] i l = absurd (omega (arith, l))
among_at (x ∷ xs) zero l = ap (λ b. b || is_among x xs) ((bytes_eq-Decides x x).1 refl)
among_at (x ∷ xs) (suc i) l = ap (λ b. bytes_eq (get_or xs i []) x || b) (among_at xs i (omega (arith, l))) ∙ any (bytes_eq (get_or xs i []) x)
  where
    any : (b : Bool) → (b || true) ≡ true
    any true = refl
    any false = refl

-- none of the others is the first one
first_alone : (x : Name) (xs : List Name) (i : ℕ) → i < length xs → differ (x ∷ xs) ≡ true → x ≡ get_or xs i [] → ⊥
first_alone x xs i l d e =
    let apart = not-true (is_among x xs) (and_parts (not (is_among x xs)) (differ xs) d).0 in
    true≢false (sym (ap (λ y. is_among y xs) e ∙ among_at xs i l) ∙ apart)

pub differ_at : (xs : List Name) (i j : ℕ) → i < length xs → j < length xs → differ xs ≡ true → get_or xs i [] ≡ get_or xs j [] → i ≡ j
differ_at [] i j l m d e = absurd (omega (arith, l))
differ_at (x ∷ xs) zero zero l m d e = refl
differ_at (x ∷ xs) zero (suc j) l m d e = absurd (first_alone x xs j (omega (arith, m)) d e)
differ_at (x ∷ xs) (suc i) zero l m d e = absurd (first_alone x xs i (omega (arith, l)) d (sym e))
differ_at (x ∷ xs) (suc i) (suc j) l m d e =
    ap suc (differ_at xs i j (omega (arith, l)) (omega (arith, m)) (and_parts (not (is_among x xs)) (differ xs) d).1 e)

-- the first so many
record InFront (n : ℕ) (xs : List Name) (i : ℕ) : Type 0 where
  same : get_or (take n xs) i [] ≡ get_or xs i []
  there : i < length (take n xs)

in_front : (n : ℕ) (xs : List Name) (i : ℕ) → i < n → i < length xs → InFront n xs i
in_front zero xs i l m = absurd (omega (arith, l))
in_front (suc n) [] i l m = absurd (omega (arith, m))
in_front (suc n) (x ∷ xs) zero l m = record { same = refl; there = omega (arith) }
in_front (suc n) (x ∷ xs) (suc i) l m =
    let h = in_front n xs i (omega (arith, l)) (omega (arith, m)) in record { same = h.same; there = (let t = h.there in omega (arith, t)) }

pub first_differ : (n : ℕ) (xs : List Name) (i j : ℕ) → i < n → j < n → i < length xs → j < length xs → differ (take n xs) ≡ true
    → get_or xs i [] ≡ get_or xs j [] → i ≡ j
first_differ n xs i j a b l m d e =
    let h = in_front n xs i a l in
    let k = in_front n xs j b m in
    differ_at (take n xs) i j h.there k.there d (h.same ∙ e ∙ sym k.same)

-- ---- what stands behind a variable's name

abbrev pub first_end : (is_pointer : Bool) → Name
first_end true = codes ":b"
first_end false = []

pub first_parts : (is_pointer : Bool) (x : Name) → first_name is_pointer x ≡ x ++ first_end is_pointer
first_parts true x = refl
first_parts false x = sym (append-nil x)

pub first_starts : (is_pointer : Bool) → Starts (first_end is_pointer)
first_starts true = refl
first_starts false = tt
