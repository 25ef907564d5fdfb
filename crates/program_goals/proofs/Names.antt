-- Names of integers: leaves, fresh names and names of binders.
use Rattle.std.proofs.Common.{◌≡◌, ℕ, zero, suc, ◌+◌, ◌==◌, Bool, true, false, not, ◌&&◌, if◌then◌else◌, List, [], ◌∷◌, ◌++◌, map, codes, refl, sym, ap, ap₂, ◌∙◌, arith}
use Rattle.std.specs.Prelude.{nat_le, ◌||◌}
use Rattle.std.specs.List.{list_all, list_any}
use Rattle.std.specs.Str.{bytes_eq}
use Rattle.std.specs.Int.Digits.{digits_of, AllBelowBase}
use Rattle.std.proofs.lemmas.Bool.{le-leb, false≢true, and_parts}
use Rattle.std.proofs.lemmas.Bool.Decides.{Decides-eqb}
use Rattle.std.proofs.lemmas.Int.Digits.{all_below_base_digits_of}
use Rattle.qed_terms.specs.Tree.{var}
use Rattle.qed_terms.specs.Names.{is_digit, is_letter, is_name_byte, is_name, is_memory_name, is_memory_base, memory_kinds, before_colon, after_colon}
use Rattle.qed_terms.specs.Fresh.{Lacks, fresh_name, from_colon, numeral}
use Rattle.acsl_encode.specs.WellFormed.{IsInt}
use Rattle.acsl_encode.specs.Binders.{Spelled, spelled_at, bound_before, binder_name, numbered, mark}
use Rattle.program_steps.specs.Leaves.{after_as, leaf_name, leaf}
use Rattle.program_goals.specs.Texts.{colon, IsPlainName, ArePlainNames, IsIntegerName}

pub and_both : {a b : Bool} → a ≡ true → b ≡ true → (a && b) ≡ true
and_both h k = ap₂ (λ x y. x && y) h k

none_of : (b : Bool) → (b && false) ≡ false
none_of true = refl
none_of false = refl

other : (b c : ℕ) → (b ≡ c → ⊥) → (b == c) ≡ false
other b c not_same = by (b == c) refl where
  by : (t : Bool) → (b == c) ≡ t → t ≡ false
  by true e = absurd (not_same ((Decides-eqb b c).0 e))
  by false e = refl

-- ---- no name without a colon is that of a memory

after_lacks : (x : List ℕ) → Lacks colon x → after_colon x ≡ []
after_lacks [] h = refl
after_lacks (b ∷ x) h = ap (λ t. if t then x else after_colon x) (other b 58 h.0) ∙ after_lacks x h.1

pub plain_integer : (x : List ℕ) → IsPlainName x → IsIntegerName x
plain_integer x h = record { name = h.name; behind = ap (λ y. list_any (bytes_eq y) memory_kinds) (after_lacks x h.plain) }

not_memory : (x : List ℕ) → IsIntegerName x → is_memory_name x ≡ false
unfolding is_memory_name
not_memory x h = ap (λ b. is_memory_base (before_colon x) && b) h.behind ∙ none_of (is_memory_base (before_colon x))

pub name_is_int : (x : List ℕ) → IsIntegerName x → IsInt (var x)
name_is_int x h = record {
  int = and_both (and_both h.name refl) refl;
  argument = and_both (and_both h.name (ap not (not_memory x h))) refl;
}

-- ---- names with a mark and a number

lacks_both : (c : ℕ) (xs ys : List ℕ) → Lacks c xs → Lacks c ys → Lacks c (xs ++ ys)
lacks_both c [] ys h k = k
lacks_both c (x ∷ xs) ys h k = (h.0, lacks_both c xs ys h.1 k)

all_both : (p : ℕ → Bool) (xs ys : List ℕ) → list_all p xs ≡ true → list_all p ys ≡ true → list_all p (xs ++ ys) ≡ true
all_both p [] ys h k = k
all_both p (x ∷ xs) ys h k = let b = and_parts (p x) (list_all p xs) h in and_both b.0 (all_both p xs ys b.1 k)

digit_byte : (b : ℕ) → is_digit b ≡ true → is_name_byte b ≡ true
digit_byte b h = by (is_letter b) (is_digit b) h where
  by : (l d : Bool) → d ≡ true → ((l || d) || list_any (λ c. b == c) (codes "_\\%:#!")) ≡ true
  by true d e = refl
  by false true e = refl
  by false false e = absurd cc

digits_are : (ds : List ℕ) → AllBelowBase 10 ds → (list_all is_name_byte (map (λ d. 48 + d) ds) ≡ true) × Lacks colon (map (λ d. 48 + d) ds)
digits_are [] h = (refl, tt)
digits_are (d ∷ ds) h =
    let low : nat_le 48 (48 + d) ≡ true = le-leb 48 (48 + d) (omega (arith)) in
    let high : nat_le (48 + d) 57 ≡ true = le-leb (48 + d) 57 (omega (arith, h.0)) in
    let rest = digits_are ds h.1 in (
      and_both (digit_byte (48 + d) (and_both low high)) rest.0,
      ((λ e. omega (arith, h.0, e)), rest.1),
    )

numeral_is : (n : ℕ) → (list_all is_name_byte (numeral n) ≡ true) × Lacks colon (numeral n)
numeral_is n = digits_are (digits_of 10 n) (all_below_base_digits_of 10 n (omega arith))

-- a byte that may begin a name, and is no colon
record IsMark (c : ℕ) : Type 0 where
  first : not (is_digit c) ≡ true
  byte : is_name_byte c ≡ true
  plain : c ≡ colon → ⊥

marked : (c : ℕ) → IsMark c → (b : List ℕ) → list_all is_name_byte b ≡ true → Lacks colon b → (n : ℕ)
    → (list_all is_name_byte (b ++ c ∷ numeral n) ≡ true) × Lacks colon (b ++ c ∷ numeral n)
marked c m b h k n = let d = numeral_is n in (all_both is_name_byte b (c ∷ numeral n) h (and_both m.byte d.0), lacks_both colon b (c ∷ numeral n) k (m.plain, d.1))

marked_name : (c : ℕ) → IsMark c → (b : List ℕ) → IsPlainName b → (n : ℕ) → IsPlainName (b ++ c ∷ numeral n)
unfolding is_name
marked_name c m [] h n = let d = marked c m [] refl tt n in record { name = and_both m.first d.0; plain = d.1 }
marked_name c m (x ∷ b) h n =
    let parts = and_parts (not (is_digit x)) (list_all is_name_byte (x ∷ b)) h.name in
    let d = marked c m (x ∷ b) parts.1 h.plain n in
    record { name = and_both parts.0 d.0; plain = d.1 }

mark_alone : (c : ℕ) → IsMark c → (n : ℕ) → IsPlainName (c ∷ numeral n)
unfolding is_name
mark_alone c m n = let d = marked c m [] refl tt n in record { name = and_both m.first d.0; plain = d.1 }

bang_marks : IsMark mark
bang_marks = record { first = refl; byte = refl; plain = λ e. omega (arith, e) }

-- ---- fresh names

before_all : (p : ℕ → Bool) (x : List ℕ) → list_all p x ≡ true → list_all p (before_colon x) ≡ true
before_all p [] h = refl
before_all p (b ∷ x) h = let k = and_parts (p b) (list_all p x) h in by (b == 58) (before_all p x k.1) where
  by : (t : Bool) → list_all p (before_colon x) ≡ true → list_all p (if t then [] else b ∷ before_colon x) ≡ true
  by true rest = refl
  by false rest = and_both (and_parts (p b) (list_all p x) h).0 rest

from_all : (p : ℕ → Bool) (x : List ℕ) → list_all p x ≡ true → list_all p (from_colon x) ≡ true
from_all p [] h = refl
from_all p (b ∷ x) h = by (b == 58) (from_all p x (and_parts (p b) (list_all p x) h).1) where
  by : (t : Bool) → list_all p (from_colon x) ≡ true → list_all p (if t then b ∷ x else from_colon x) ≡ true
  by true rest = h
  by false rest = rest

before_lacks : (x : List ℕ) → Lacks colon (before_colon x)
before_lacks [] = tt
before_lacks (b ∷ x) = by (b == 58) refl (before_lacks x) where
  by : (t : Bool) → (b == 58) ≡ t → Lacks colon (before_colon x) → Lacks colon (if t then [] else b ∷ before_colon x)
  by true e rest = tt
  by false e rest = ((λ same. false≢true (sym e ∙ (Decides-eqb b 58).1 same)), rest)

after_skip : (x y : List ℕ) → Lacks colon x → after_colon (x ++ y) ≡ after_colon y
after_skip [] y h = refl
after_skip (b ∷ x) y h = ap (λ t. if t then x ++ y else after_colon (x ++ y)) (other b 58 h.0) ∙ after_skip x y h.1

after_from : (x : List ℕ) → after_colon (from_colon x) ≡ after_colon x
after_from [] = refl
after_from (b ∷ x) = by (b == 58) refl (after_from x) where
  by : (t : Bool) → (b == 58) ≡ t → after_colon (from_colon x) ≡ after_colon x → after_colon (if t then b ∷ x else from_colon x) ≡ (if t then x else after_colon x)
  by true e rest = ap (λ t. if t then x else after_colon x) e
  by false e rest = rest

fresh_named : (b : List ℕ) (n : ℕ) → is_name b ≡ true → is_name (before_colon b ++ (35 ∷ (numeral n ++ from_colon b))) ≡ true
unfolding is_name
fresh_named [] n h = absurd (false≢true h)
fresh_named (x ∷ b) n h = by (x == 58) (before_all is_name_byte b (and_parts (is_name_byte x) (list_all is_name_byte b) parts.1).1) where
  parts : (not (is_digit x) ≡ true) × (list_all is_name_byte (x ∷ b) ≡ true)
  parts = and_parts (not (is_digit x)) (list_all is_name_byte (x ∷ b)) h

  back : list_all is_name_byte (35 ∷ (numeral n ++ from_colon (x ∷ b))) ≡ true
  back = all_both is_name_byte (numeral n) (from_colon (x ∷ b)) (numeral_is n).0 (from_all is_name_byte (x ∷ b) parts.1)

  by : (t : Bool) → list_all is_name_byte (before_colon b) ≡ true → is_name ((if t then [] else x ∷ before_colon b) ++ (35 ∷ (numeral n ++ from_colon (x ∷ b)))) ≡ true
  by true k = back
  by false k =
      and_both parts.0 (and_both (and_parts (is_name_byte x) (list_all is_name_byte b) parts.1).0 (all_both is_name_byte (before_colon b) (35 ∷ (numeral n ++ from_colon (x ∷ b))) k back))

pub fresh_integer : (b : List ℕ) → IsIntegerName b → (n : ℕ) → IsIntegerName (fresh_name b n)
unfolding fresh_name
fresh_integer b h n = record {
  name = fresh_named b n h.name;
  behind =
      ap (λ y. list_any (bytes_eq y) memory_kinds)
      (after_skip (before_colon b) (35 ∷ (numeral n ++ from_colon b)) (before_lacks b)
      ∙ after_skip (35 ∷ numeral n) (from_colon b) ((λ e. omega (arith, e)), (numeral_is n).1) ∙ after_from b)
      ∙ h.behind;
}

-- ---- binders

spelled_plain : (names : Spelled) → ArePlainNames names → (n i : ℕ) → IsPlainName (binder_name (spelled_at names n) i)
spelled_plain [] h n i = mark_alone mark bang_marks i
spelled_plain (x ∷ names) h zero i = marked_name mark bang_marks x h.0 i
spelled_plain (x ∷ names) h (suc n) i = spelled_plain names h.1 n i

pub binder_is_int : (names : Spelled) → ArePlainNames names → (n : ℕ) → IsInt (var (numbered names n))
unfolding numbered
binder_is_int names h n =
    let i = suc (bound_before names (spelled_at names n) n) in
    name_is_int (binder_name (spelled_at names n) i) (plain_integer (binder_name (spelled_at names n) i) (spelled_plain names h n i))

-- ---- leaves

as_bytes : (n : ℕ) (x : List ℕ) → list_all is_name_byte x ≡ true → Lacks colon x → (list_all is_name_byte (after_as n x) ≡ true) × Lacks colon (after_as n x)
as_bytes zero x h k = (h, k)
as_bytes (suc n) x h k = let r = as_bytes n x h k in (r.0, ((λ e. omega (arith, e)), r.1))

leaf_bytes : (l i : ℕ) → (list_all is_name_byte (after_as l (98 ∷ after_as i [])) ≡ true) × Lacks colon (after_as l (98 ∷ after_as i []))
leaf_bytes l i = let r = as_bytes i [] refl tt in as_bytes l (98 ∷ after_as i []) r.0 ((λ e. omega (arith, e)), r.1)

leaf_plain : (l i : ℕ) → IsPlainName (leaf_name l i)
unfolding leaf_name is_name
leaf_plain zero i = let r = leaf_bytes zero i in record { name = r.0; plain = r.1 }
leaf_plain (suc l) i = let r = leaf_bytes (suc l) i in record { name = r.0; plain = r.1 }

pub leaf_is_int : (l i : ℕ) → IsInt (leaf l i)
leaf_is_int l i = name_is_int (leaf_name l i) (plain_integer (leaf_name l i) (leaf_plain l i))
