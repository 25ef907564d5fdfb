-- Words at the front of a text: what is written is found, and what is found stands there.
use Rattle.std.proofs.Common.{◌≡◌, ℕ, suc, ◌+◌, ◌<◌, ◌≤◌, ◌^◌, eqb, Bool, true, false, not, cond, ◌||◌, List, [], ◌∷◌, ◌++◌, length, codes, Option, Some, None, ℤ, pos, negsuc, refl, sym, ap, ◌∙◌, subst, arith, take, drop}
use Rattle.std.specs.List.{list_all, prefix_len}
use Rattle.std.specs.Str.{bytes_eq}
use Rattle.std.specs.Str.Parse.{AllDigits}
use Rattle.std.specs.Fmt.{decimal, signed_decimal}
use Rattle.std.proofs.lemmas.Bool.{false≢true}
use Rattle.std.proofs.lemmas.Bool.Decides.{Decides-eqb}
use Rattle.std.proofs.lemmas.List.{take_at, drop_at, take-append-drop}
use Rattle.std.proofs.lemmas.Str.Parse.{digit_from_value}
use Rattle.std.proofs.lemmas.Slice.Eq.{bytes_eq-Decides}
use Rattle.wp_base.specs.declared.kinds.Kind.{Kind}
use Rattle.wp_base.specs.declared.kinds.Kind.TheVariants as kind
use Rattle.wp_base.specs.declared.kinds.CellKind.{CellKind}
use Rattle.wp_base.specs.declared.kinds.CellKind.TheVariants as cell
use Rattle.qed_terms.specs.Names.{is_name, is_name_byte, is_digit}
use Rattle.goal_words.specs.Bytes.{◌>>=◌, expect, is_plain, ends, front, after, part, only_if, with_rest, named_part}
use Rattle.goal_words.specs.Kinds.{kind_text, cell_text}
use Rattle.goal_words.specs.Names.{name_part}
use Rattle.goal_words.specs.Numbers.{fits_128, flag, flag_text}
use Rattle.goal_words.proofs.Numerals.{only_if_is, both_true, fits_to, numeral}

-- ---- what a step of several gives

pub then_some : {X Y : Type 0} (o : Option X) (f : X → Option Y) (y : Y) → (o >>= f) ≡ Some y → (x : X) × (o ≡ Some x) × (f x ≡ Some y)
then_some None f y h = absurd cc
then_some (Some x) f y h = (x, refl, h)

abbrev pub both : {X Y : Type 0} → X → Y → Option (X × Y)
both x y = Some (x, y)

pub parts : {X Y : Type 0} (x x' : X) (y y' : Y) → both x y ≡ both x' y' → (x ≡ x') × (y ≡ y')
parts {X} {Y} x x' y y' h =
    let pair : X × Y = (x, y) in
    let pair' : X × Y = (x', y') in
    let alike : pair ≡ pair' = cc in
    (ap (λ (p : X × Y). p.0) alike, ap (λ (p : X × Y). p.1) alike)

-- ---- bytes

eqb_is : (m n : ℕ) → eqb m n ≡ true → m ≡ n
eqb_is m n h = (Decides-eqb m n).0 h

pub expect_is : (b : ℕ) (bytes rest : List ℕ) → expect b bytes ≡ Some rest → bytes ≡ b ∷ rest
expect_is b [] rest h = absurd cc
expect_is b (c ∷ bytes) rest h = by (eqb c b) refl h
  where
    by : (t : Bool) → eqb c b ≡ t → cond t (Some bytes) None ≡ Some rest → c ∷ bytes ≡ b ∷ rest
    by true e h = let same : bytes ≡ rest = cc in let head = eqb_is c b e in cc
    by false e h = absurd cc

-- ---- words

prefix_of : (word rest : List ℕ) → list_all is_plain word ≡ true → ends rest ≡ true → length word ≡ prefix_len is_plain (word ++ rest)
prefix_of [] [] p e = refl
prefix_of [] (b ∷ rest) p e = by (is_plain b) e
  where
    by : (t : Bool) → not t ≡ true → 0 ≡ cond t (1 + prefix_len is_plain rest) 0
    by true e = absurd (false≢true e)
    by false e = refl
prefix_of (b ∷ word) rest p e =
    let x = both_true (is_plain b) (list_all is_plain word) p in
    rw x.0 (let more = prefix_of word rest x.1 e in omega arith)

pub front_of : (word rest : List ℕ) → list_all is_plain word ≡ true → ends rest ≡ true → front (word ++ rest) ≡ word
unfolding front
front_of word rest p e = take_at word rest (prefix_len is_plain (word ++ rest)) (prefix_of word rest p e)

pub after_of : (word rest : List ℕ) → list_all is_plain word ≡ true → ends rest ≡ true → after (word ++ rest) ≡ rest
unfolding after
after_of word rest p e = drop_at word rest (prefix_len is_plain (word ++ rest)) (prefix_of word rest p e)

pub front_after : (bytes : List ℕ) → bytes ≡ front bytes ++ after bytes
unfolding front after
front_after bytes = sym (take-append-drop (prefix_len is_plain bytes) bytes)

-- ---- what is plain

plain_unless : (b : ℕ) → (eqb b 32 ≡ true → ⊥) → (eqb b 40 ≡ true → ⊥) → (eqb b 41 ≡ true → ⊥) → is_plain b ≡ true
plain_unless b space open' close' = by (eqb b 32) (eqb b 40) (eqb b 41) space open' close'
  where
    by : (x y z : Bool) → (x ≡ true → ⊥) → (y ≡ true → ⊥) → (z ≡ true → ⊥) → not (x || y || z) ≡ true
    by true y z p q r = absurd (p refl)
    by false true z p q r = absurd (q refl)
    by false false true p q r = absurd (r refl)
    by false false false p q r = refl

name_byte_plain : (b : ℕ) → is_name_byte b ≡ true → is_plain b ≡ true
name_byte_plain b h = plain_unless b
    (λ e. false≢true (subst (λ b. is_name_byte b ≡ true) (eqb_is b 32 e) h))
    (λ e. false≢true (subst (λ b. is_name_byte b ≡ true) (eqb_is b 40 e) h))
    (λ e. false≢true (subst (λ b. is_name_byte b ≡ true) (eqb_is b 41 e) h))

pub plain_name_bytes : (x : List ℕ) → list_all is_name_byte x ≡ true → list_all is_plain x ≡ true
plain_name_bytes [] h = refl
plain_name_bytes (b ∷ x) h =
    let p = both_true (is_name_byte b) (list_all is_name_byte x) h in
    rw (name_byte_plain b p.0) (plain_name_bytes x p.1)

pub plain_name : (x : List ℕ) → is_name x ≡ true → list_all is_plain x ≡ true
unfolding is_name
plain_name [] h = refl
plain_name (b ∷ x) h = plain_name_bytes (b ∷ x) (both_true (not (is_digit b)) (list_all is_name_byte (b ∷ x)) h).1

digit_plain : (b : ℕ) → 48 ≤ b → is_plain b ≡ true
digit_plain b h = plain_unless b (λ e. let same = eqb_is b 32 e in omega arith) (λ e. let same = eqb_is b 40 e in omega arith) (λ e. let same = eqb_is b 41 e in omega arith)

plain_digits : (ds : List ℕ) → AllDigits 10 ds → list_all is_plain ds ≡ true
plain_digits [] h = refl
plain_digits (b ∷ ds) h = rw (digit_plain b (omega (arith, digit_from_value b h.0))) (plain_digits ds h.1)

pub plain_count : (n : ℕ) → n < 2 ^ 32 → list_all is_plain (decimal n) ≡ true
plain_count n h = plain_digits (decimal n) (numeral n (omega arith)).0.1

pub plain_number : (z : ℤ) → fits_128 z ≡ true → list_all is_plain (signed_decimal z) ≡ true
plain_number (pos n) h = let small = (fits_to (pos n) h).sfits in plain_digits (decimal n) (numeral n (omega arith)).0.1
plain_number (negsuc n) h = let small = (fits_to (negsuc n) h).sfits in plain_digits (decimal (suc n)) (numeral (suc n) (omega arith)).0.1

pub plain_kind : (k : Kind) → list_all is_plain (kind_text k) ≡ true
plain_kind kind.Bool = refl
plain_kind kind.Char = refl
plain_kind kind.SChar = refl
plain_kind kind.UChar = refl
plain_kind kind.Short = refl
plain_kind kind.UShort = refl
plain_kind kind.Int = refl
plain_kind kind.UInt = refl
plain_kind kind.Long = refl
plain_kind kind.ULong = refl
plain_kind kind.LLong = refl
plain_kind kind.ULLong = refl

pub plain_cell : (k : CellKind) → list_all is_plain (cell_text k) ≡ true
plain_cell (cell.Of k) = plain_kind k
plain_cell cell.Ptr = refl

pub plain_flag : (w : Bool) → list_all is_plain (flag_text w) ≡ true
plain_flag true = refl
plain_flag false = refl

-- ---- parts that are words

pub part_is : (bytes : List ℕ) (x : List ℕ × List ℕ) → part bytes ≡ Some x → bytes ≡ 32 ∷ (x.0 ++ x.1)
part_is bytes x h =
    let rest = then_some (expect 32 bytes) _ x h in
    let found : List ℕ × List ℕ = (front rest.0, after rest.0) in
    let same : found ≡ x = cc in
    expect_is 32 bytes rest.0 rest.1 ∙ ap (λ l. 32 ∷ l) (front_after rest.0) ∙ ap (λ (x : List ℕ × List ℕ). 32 ∷ (x.0 ++ x.1)) same

pub part_of : (word rest : List ℕ) → list_all is_plain word ≡ true → ends rest ≡ true → part (32 ∷ (word ++ rest)) ≡ Some (word, rest)
part_of word rest p e = rw (front_of word rest p e, after_of word rest p e)

pub with_rest_is : {X : Type 0} (rest : List ℕ) (o : Option X) (x : X) (rest' : List ℕ) → with_rest rest o ≡ Some (x, rest') → (o ≡ Some x) × (rest ≡ rest')
with_rest_is rest None x rest' h = absurd cc
with_rest_is rest (Some y) x rest' h = let same = parts y x rest rest' h in (ap Some same.0, same.1)

pub named_part_is : {X : Type 0} (names : List ℕ → Option X) (bytes : List ℕ) (x : X) (rest : List ℕ) → named_part names bytes ≡ Some (x, rest) → (word : List ℕ) × (names word ≡ Some x) × (bytes ≡ 32 ∷ (word ++ rest))
named_part_is {X} names bytes x rest h =
    let whole : X × List ℕ = (x, rest) in
    let p = then_some (part bytes) (λ p. with_rest p.1 (names p.0)) whole h in
    let y = with_rest_is p.0.1 (names p.0.0) x rest p.2 in
    (p.0.0, y.0, part_is bytes p.0 p.1 ∙ ap (λ r. 32 ∷ (p.0.0 ++ r)) y.1)

pub named_part_of : {X : Type 0} (names : List ℕ → Option X) (word rest : List ℕ) (x : X) → names word ≡ Some x → list_all is_plain word ≡ true → ends rest ≡ true → named_part names (32 ∷ (word ++ rest)) ≡ Some (x, rest)
named_part_of names word rest x n p e = rw (front_of word rest p e, after_of word rest p e, n)

pub name_part_is : (bytes : List ℕ) (x rest : List ℕ) → name_part bytes ≡ Some (x, rest) → (is_name x ≡ true) × (bytes ≡ 32 ∷ (x ++ rest))
name_part_is bytes x rest h =
    let whole : List ℕ × List ℕ = (x, rest) in
    let p = then_some (part bytes) (λ p. only_if (is_name p.0) p) whole h in
    let y = only_if_is (is_name p.0.0) p.0 whole p.2 in
    (ap (λ (p : List ℕ × List ℕ). is_name p.0) (sym y.1) ∙ y.0, part_is bytes p.0 p.1 ∙ ap (λ (p : List ℕ × List ℕ). 32 ∷ (p.0 ++ p.1)) y.1)

pub name_part_of : (x rest : List ℕ) → is_name x ≡ true → ends rest ≡ true → name_part (32 ∷ (x ++ rest)) ≡ Some (x, rest)
name_part_of x rest n e = rw (front_of x rest (plain_name x n) e, after_of x rest (plain_name x n) e, n)

-- ---- flags

pub flag_is : (word : List ℕ) (w : Bool) → flag word ≡ Some w → word ≡ flag_text w
flag_is word w h = by (bytes_eq word (codes "1")) (bytes_eq word (codes "0")) refl refl h
  where
    by : (x y : Bool) → bytes_eq word (codes "1") ≡ x → bytes_eq word (codes "0") ≡ y → cond x (Some true) (cond y (Some false) None) ≡ Some w → word ≡ flag_text w
    by true y p q h = let same : true ≡ w = cc in (bytes_eq-Decides word (codes "1")).0 p ∙ ap flag_text same
    by false true p q h = let same : false ≡ w = cc in (bytes_eq-Decides word (codes "0")).0 q ∙ ap flag_text same
    by false false p q h = absurd cc

pub flag_found : (w : Bool) → flag (flag_text w) ≡ Some w
flag_found true = refl
flag_found false = refl

-- ---- one space and one word

plain_more : (b : ℕ) (bytes : List ℕ) (t : Bool) → is_plain b ≡ t → list_all is_plain (take (prefix_len is_plain bytes) bytes) ≡ true
    → list_all is_plain (take (cond t (1 + prefix_len is_plain bytes) 0) (b ∷ bytes)) ≡ true
plain_more b bytes true e h = let one : 1 + prefix_len is_plain bytes ≡ suc (prefix_len is_plain bytes) = omega arith in rw (one, e) h
plain_more b bytes false e h = refl

plain_front : (bytes : List ℕ) → list_all is_plain (front bytes) ≡ true
unfolding front
plain_front [] = refl
plain_front (b ∷ bytes) = plain_more b bytes (is_plain b) refl (plain_front bytes)

ends_more : (b : ℕ) (bytes : List ℕ) (t : Bool) → is_plain b ≡ t → ends (drop (prefix_len is_plain bytes) bytes) ≡ true → ends (drop (cond t (1 + prefix_len is_plain bytes) 0) (b ∷ bytes)) ≡ true
ends_more b bytes true e h = let one : 1 + prefix_len is_plain bytes ≡ suc (prefix_len is_plain bytes) = omega arith in rw one h
ends_more b bytes false e h = ap not e

ends_after : (bytes : List ℕ) → ends (after bytes) ≡ true
unfolding after
ends_after [] = refl
ends_after (b ∷ bytes) = ends_more b bytes (is_plain b) refl (ends_after bytes)

pub one_space : (bytes word rest : List ℕ) → part bytes ≡ Some (word, rest) → (bytes ≡ 32 ∷ (word ++ rest)) × (list_all is_plain word ≡ true) × (ends rest ≡ true)
one_space bytes word rest h =
    let x : List ℕ × List ℕ = (word, rest) in
    let left = then_some (expect 32 bytes) _ x h in
    let same = parts (front left.0) word (after left.0) rest left.2 in
    (part_is bytes x h, ap (λ w. list_all is_plain w) (sym same.0) ∙ plain_front left.0, ap ends (sym same.1) ∙ ends_after left.0)

pub is_part : (bytes word rest : List ℕ) → bytes ≡ 32 ∷ (word ++ rest) → list_all is_plain word ≡ true → ends rest ≡ true → part bytes ≡ Some (word, rest)
is_part bytes word rest e p q = ap part e ∙ part_of word rest p q
