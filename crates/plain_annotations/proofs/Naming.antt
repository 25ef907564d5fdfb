-- Leaves and names of binders are well formed terms, and leaves have no mark.
use Rattle.std.proofs.Common.{◌≡◌, ℕ, zero, suc, ◌+◌, ◌==◌, Bool, true, false, not, ◌&&◌, ◌||◌, if◌then◌else◌, List, [], ◌∷◌, ◌++◌, map, codes, refl, sym, ap, ap₂, ◌∙◌, subst, arith}
use Rattle.std.specs.Prelude.{nat_le}
use Rattle.std.specs.List.{list_all, list_any}
use Rattle.std.specs.Str.{bytes_eq}
use Rattle.std.specs.Int.Digits.{digits_of, AllBelowBase}
use Rattle.std.proofs.lemmas.Bool.{and_parts, false≢true, eqb-true, le-leb}
use Rattle.std.proofs.lemmas.Slice.Eq.{bytes_eq-Decides}
use Rattle.std.proofs.lemmas.Int.Digits.{all_below_base_digits_of}
use Rattle.qed_terms.specs.declared.head.Sort.TheVariants as sort
use Rattle.qed_terms.specs.Names.{is_digit, is_letter, is_name_byte, is_name, is_memory_name, is_memory_base, before_colon, after_colon, memory_kinds}
use Rattle.qed_terms.specs.Fresh.{Lacks, numeral}
use Rattle.qed_terms.specs.WellFormed.{same_sort}
use Rattle.qed_terms.specs.Tree.{var}
use Rattle.acsl_encode.specs.Binders.{Spelled, mark, spelled_at, bound_before, binder_name, numbered, AllLack, IsUnmarked}
use Rattle.acsl_encode.specs.WellFormed.{IsInt}
use Rattle.program_steps.specs.Leaves.{after_as, leaf_name, leaf, is_marked}
use Rattle.plain_annotations.specs.Names.{is_c_byte, begins_well, is_c_name, are_c_names}

both : (a b : Bool) → a ≡ true → b ≡ true → (a && b) ≡ true
both a b h k = ap₂ (λ x y. x && y) h k

all_both : (p : ℕ → Bool) (xs ys : List ℕ) → list_all p xs ≡ true → list_all p ys ≡ true → list_all p (xs ++ ys) ≡ true
all_both p [] ys h k = k
all_both p (x ∷ xs) ys h k = let e = and_parts (p x) (list_all p xs) h in both (p x) (list_all p (xs ++ ys)) e.0 (all_both p xs ys e.1 k)

all_more : (p q : ℕ → Bool) (xs : List ℕ) → ((b : ℕ) → p b ≡ true → q b ≡ true) → list_all p xs ≡ true → list_all q xs ≡ true
all_more p q [] f h = refl
all_more p q (x ∷ xs) f h = let e = and_parts (p x) (list_all p xs) h in both (q x) (list_all q xs) (f x e.0) (all_more p q xs f e.1)

-- a byte that doesn't pass isn't among them
pub lacks_byte : (p : ℕ → Bool) (c : ℕ) (xs : List ℕ) → p c ≡ false → list_all p xs ≡ true → Lacks c xs
lacks_byte p c [] no_such h = tt
lacks_byte p c (x ∷ xs) no_such h =
    let e = and_parts (p x) (list_all p xs) h in
    ((λ same. false≢true (sym no_such ∙ ap p (sym same) ∙ e.0)), lacks_byte p c xs no_such e.1)

lacks_both : (c : ℕ) (xs ys : List ℕ) → Lacks c xs → Lacks c ys → Lacks c (xs ++ ys)
lacks_both c [] ys h k = k
lacks_both c (x ∷ xs) ys h k = (h.0, lacks_both c xs ys h.1 k)

-- ---- names without a colon are no names of memories

nothing_behind : (x : List ℕ) → Lacks 58 x → after_colon x ≡ []
nothing_behind [] h = refl
nothing_behind (b ∷ x) h = by (nothing_behind x h.1) (b == 58) refl
  where
    by : after_colon x ≡ [] → (t : Bool) → (b == 58) ≡ t → (if t then x else after_colon x) ≡ []
    by rest true e = absurd (h.0 (eqb-true b 58 e))
    by rest false e = rest

no_memory : (x : List ℕ) → Lacks 58 x → is_memory_name x ≡ false
unfolding is_memory_name
no_memory x h = ap (λ y. is_memory_base (before_colon x) && list_any (bytes_eq y) memory_kinds) (nothing_behind x h) ∙ by (is_memory_base (before_colon x))
  where
    by : (b : Bool) → (b && false) ≡ false
    by true = refl
    by false = refl

var_fits : (x : List ℕ) → is_name x ≡ true → Lacks 58 x → IsInt (var x)
var_fits x name colon =
    record { int = λ i. name i && true && true; argument = let e = no_memory x colon in λ i. name i && not (e i) && true }

-- ---- leaves

abbrev is_leaf_byte : ℕ → Bool
is_leaf_byte b = b == 97 || b == 98

leaf_byte : (b : ℕ) → is_leaf_byte b ≡ true → is_name_byte b ≡ true
leaf_byte b h = by (b == 97) (b == 98) refl refl h
  where
    by : (s t : Bool) → (b == 97) ≡ s → (b == 98) ≡ t → (s || t) ≡ true → is_name_byte b ≡ true
    by true t e f g = subst (λ c. is_name_byte c ≡ true) (sym (eqb-true b 97 e)) refl
    by false true e f g = subst (λ c. is_name_byte c ≡ true) (sym (eqb-true b 98 f)) refl
    by false false e f g = absurd (false≢true g)

all_as : (n : ℕ) (xs : List ℕ) → list_all is_leaf_byte xs ≡ true → list_all is_leaf_byte (after_as n xs) ≡ true
all_as zero xs h = h
all_as (suc n) xs h = all_as n xs h

leaf_bytes : (l i : ℕ) → list_all is_leaf_byte (leaf_name l i) ≡ true
unfolding leaf_name
leaf_bytes l i = all_as l (98 ∷ after_as i []) (all_as i [] refl)

no_digit : (l i : ℕ) → is_name (after_as l (98 ∷ after_as i [])) ≡ list_all is_name_byte (after_as l (98 ∷ after_as i []))
unfolding is_name
no_digit zero i = refl
no_digit (suc l) i = refl

leaf_is_name : (l i : ℕ) → is_name (leaf_name l i) ≡ true
unfolding leaf_name
leaf_is_name l i = no_digit l i ∙ all_more is_leaf_byte is_name_byte (leaf_name l i) leaf_byte (leaf_bytes l i)

pub leaf_fits : (l i : ℕ) → IsInt (leaf l i)
leaf_fits l i = var_fits (leaf_name l i) (leaf_is_name l i) (lacks_byte is_leaf_byte 58 (leaf_name l i) refl (leaf_bytes l i))

-- a name is free in itself alone
pub var_unmarked : (x : List ℕ) → Lacks mark x → IsUnmarked (var x)
var_unmarked x lacks y s free = subst (Lacks mark) (sym ((bytes_eq-Decides y x).0 (same (bytes_eq y x) (same_sort s sort.Int) free))) lacks
  where
    same : (a b : Bool) → ((a && b) || false) ≡ true → a ≡ true
    same true b e = refl
    same false b e = absurd (false≢true e)

pub leaf_unmarked : (l i : ℕ) → IsUnmarked (leaf l i)
leaf_unmarked l i = var_unmarked (leaf_name l i) (lacks_byte is_leaf_byte mark (leaf_name l i) refl (leaf_bytes l i))

-- ---- names of binders

c_byte : (b : ℕ) → is_c_byte b ≡ true → is_name_byte b ≡ true
c_byte b h = by (is_letter b) (is_digit b) (b == 95) h
  where
    by : (l d u : Bool) → (l || d || u) ≡ true → ((l || d) || (u || list_any (λ c. b == c) (codes "\\%:#!"))) ≡ true
    by true d u e = refl
    by false true u e = refl
    by false false true e = refl
    by false false false e = absurd (false≢true e)

digit_byte : (b : ℕ) → is_digit b ≡ true → is_name_byte b ≡ true
digit_byte b h = by (is_letter b) (is_digit b) h
  where
    by : (l d : Bool) → d ≡ true → ((l || d) || list_any (λ c. b == c) (codes "_\\%:#!")) ≡ true
    by true d e = refl
    by false true e = refl
    by false false e = absurd (false≢true e)

digits_are : (ds : List ℕ) → AllBelowBase 10 ds → list_all is_name_byte (map (λ d. 48 + d) ds) ≡ true
digits_are [] h = refl
digits_are (d ∷ ds) h =
    let low : nat_le 48 (48 + d) ≡ true = le-leb 48 (48 + d) (omega (arith)) in
    let high : nat_le (48 + d) 57 ≡ true = le-leb (48 + d) 57 (omega (arith, h.0)) in
    both (is_name_byte (48 + d)) _ (digit_byte (48 + d) (both (nat_le 48 (48 + d)) (nat_le (48 + d) 57) low high)) (digits_are ds h.1)

digits_lack : (ds : List ℕ) → AllBelowBase 10 ds → Lacks 58 (map (λ d. 48 + d) ds)
digits_lack [] h = tt
digits_lack (d ∷ ds) h = ((λ e. let less = h.0 in omega (arith, e, less)), digits_lack ds h.1)

module _ (x : List ℕ) (n : ℕ) (spelled : list_all is_c_byte x ≡ true) where
  below : AllBelowBase 10 (digits_of 10 n)
  below = all_below_base_digits_of 10 n (omega arith)

  binder_bytes : list_all is_name_byte (binder_name x n) ≡ true
  binder_bytes = all_both is_name_byte x (mark ∷ numeral n) (all_more is_c_byte is_name_byte x c_byte spelled) (digits_are (digits_of 10 n) below)

  binder_lacks : Lacks 58 (binder_name x n)
  binder_lacks = lacks_both 58 x (mark ∷ numeral n) (lacks_byte is_c_byte 58 x refl spelled) ((λ e. omega (arith, e)), digits_lack (digits_of 10 n) below)

named_well : (x : List ℕ) (n : ℕ) → list_all is_c_byte x ≡ true → (begins_well x ≡ true) → is_name (binder_name x n) ≡ true
unfolding is_name
named_well [] n all begins = absurd (false≢true begins)
named_well (b ∷ x) n all begins = both (not (is_digit b)) (list_all is_name_byte (binder_name (b ∷ x) n)) begins (binder_bytes (b ∷ x) n all)

unnamed_well : (n : ℕ) → is_name (binder_name [] n) ≡ true
unfolding is_name
unnamed_well n = binder_bytes [] n refl

-- names that there are, and none
named_at : (names : Spelled) (i n : ℕ) → are_c_names names ≡ true → IsInt (var (binder_name (spelled_at names i) n))
named_at [] i n h = var_fits (binder_name [] n) (unnamed_well n) (binder_lacks [] n refl)
named_at (x ∷ xs) zero n h =
    let e = and_parts (is_c_name x) (are_c_names xs) h in
    let f = and_parts (begins_well x) (list_all is_c_byte x) e.0 in
    var_fits (binder_name x n) (named_well x n f.1 f.0) (binder_lacks x n f.1)
named_at (x ∷ xs) (suc i) n h = named_at xs i n (and_parts (is_c_name x) (are_c_names xs) h).1

pub binder_fits : (names : Spelled) (n : ℕ) → are_c_names names ≡ true → IsInt (var (numbered names n))
unfolding numbered
binder_fits names n h = named_at names n (suc (bound_before names (spelled_at names n) n)) h

pub all_lack : (names : Spelled) → are_c_names names ≡ true → AllLack names
all_lack [] h = tt
all_lack (x ∷ xs) h =
    let e = and_parts (is_c_name x) (are_c_names xs) h in
    (lacks_byte is_c_byte mark x refl (and_parts (begins_well x) (list_all is_c_byte x) e.0).1, all_lack xs e.1)

has_mark : (x ys : List ℕ) → is_marked (x ++ mark ∷ ys) ≡ true
has_mark [] ys = refl
has_mark (b ∷ x) ys = by (b == 33) (has_mark x ys)
  where
    by : (t : Bool) → is_marked (x ++ mark ∷ ys) ≡ true → (t || is_marked (x ++ mark ∷ ys)) ≡ true
    by true e = refl
    by false e = e

pub binder_marked : (names : Spelled) (n : ℕ) → is_marked (numbered names n) ≡ true
unfolding numbered
binder_marked names n = has_mark (spelled_at names n) (numeral (suc (bound_before names (spelled_at names n) n)))
