-- Bases of slots are names that aren't taken for those of memories, and names of C have no colon.
use Rattle.std.proofs.Common.{◌≡◌, ℕ, zero, suc, ◌+◌, ◌==◌, Bool, true, false, not, ◌&&◌, ◌||◌, if◌then◌else◌, List, [], ◌∷◌, ◌++◌, map, codes, refl, sym, ap, ◌∙◌, arith}
use Rattle.std.specs.Prelude.{◌-◌, nat_lt}
use Rattle.std.specs.List.{list_all, list_any}
use Rattle.std.specs.Str.{bytes_eq}
use Rattle.std.specs.Int.Digits.{digits_of, AllBelowBase}
use Rattle.std.proofs.lemmas.Bool.{and_parts, false≢true, eqb-true}
use Rattle.std.proofs.lemmas.Int.Digits.{all_below_base_digits_of}
use Rattle.qed_terms.specs.Names.{is_digit, is_letter, is_name_byte, is_name, after_colon, memory_kinds}
use Rattle.qed_terms.specs.Fresh.{Lacks}
use Rattle.acsl_encode.specs.Binders.{Spelled}
use Rattle.walk_steps.specs.Texts.{AreNames}
use Rattle.plain_annotations.specs.Names as binders
use Rattle.slot_names.specs.Bases.{Name, is_among, flag_name, pairs_of, shown_as, own_names, temporary_name, temporary_names, behind_variables, slot_bases, is_c_byte, begins_well, is_c_name}
use Rattle.program_goals.specs.Texts.{colon, IsPlainName, ArePlainNames, AreIntegerNames}

both : (a b : Bool) → a ≡ true → b ≡ true → (a && b) ≡ true
both a b h k = λ i. h i && k i

-- ---- names of C

byte_lacks : (x : Name) → list_all is_c_byte x ≡ true → Lacks colon x
byte_lacks [] h = tt
byte_lacks (b ∷ x) h =
    let parts = and_parts (is_c_byte b) (list_all is_c_byte x) h in ((λ e. false≢true (ap is_c_byte (sym e) ∙ parts.0)), byte_lacks x parts.1)

name_byte : (b : ℕ) → is_c_byte b ≡ true → is_name_byte b ≡ true
name_byte b h = by (is_letter b) (is_digit b) (b == 95) refl h
  where
    by : (l d u : Bool) → (b == 95) ≡ u → (l || d || u) ≡ true → (l || d || list_any (λ c. b == c) (codes "_\\%:#!")) ≡ true
    by true d u e k = refl
    by false true u e k = refl
    by false false u e k = ap (λ t. t || list_any (λ c. b == c) (codes "\\%:#!")) (e ∙ k)

name_bytes : (x : Name) → list_all is_c_byte x ≡ true → list_all is_name_byte x ≡ true
name_bytes [] h = refl
name_bytes (b ∷ x) h =
    let parts = and_parts (is_c_byte b) (list_all is_c_byte x) h in both (is_name_byte b) (list_all is_name_byte x) (name_byte b parts.0) (name_bytes x parts.1)

c_is_name : (x : Name) → is_c_name x ≡ true → is_name x ≡ true
unfolding is_name
c_is_name [] h = absurd (false≢true h)
c_is_name (b ∷ x) h =
    let parts = and_parts (not (is_digit b)) (list_all is_c_byte (b ∷ x)) h in both (not (is_digit b)) (list_all is_name_byte (b ∷ x)) parts.0 (name_bytes (b ∷ x) parts.1)

c_lacks : (x : Name) → is_c_name x ≡ true → Lacks colon x
c_lacks x h = byte_lacks x (and_parts (begins_well x) (list_all is_c_byte x) h).1

-- ---- binders

one_plain : (x : Name) → binders.is_c_name x ≡ true → IsPlainName x
one_plain [] h = absurd (false≢true h)
one_plain (b ∷ x) h = record { name = c_is_name (b ∷ x) h; plain = c_lacks (b ∷ x) h }

pub plain_binders : (xs : Spelled) → binders.are_c_names xs ≡ true → ArePlainNames xs
plain_binders [] h = tt
plain_binders (x ∷ xs) h = let parts = and_parts (binders.is_c_name x) (binders.are_c_names xs) h in (one_plain x parts.0, plain_binders xs parts.1)

-- ---- what stands behind a colon

abbrev NoKind : Name → Type 0
NoKind x = list_any (bytes_eq (after_colon x)) memory_kinds ≡ false

no_colon : (b : ℕ) (x y : Name) → (b ≡ colon → ⊥) → (if b == 58 then x else y) ≡ y
no_colon b x y h = by (b == 58) refl
  where
    by : (t : Bool) → (b == 58) ≡ t → (if t then x else y) ≡ y
    by true e = absurd (h (eqb-true b 58 e))
    by false e = refl

after_lacks : (x : Name) → Lacks colon x → after_colon x ≡ []
after_lacks [] h = refl
after_lacks (b ∷ x) h = no_colon b x (after_colon x) h.0 ∙ after_lacks x h.1

after_both : (x y : Name) → Lacks colon x → after_colon (x ++ y) ≡ after_colon y
after_both [] y h = refl
after_both (b ∷ x) y h = no_colon b (x ++ y) (after_colon (x ++ y)) h.0 ∙ after_both x y h.1

no_kind : (x : Name) → Lacks colon x → NoKind x
no_kind x h = ap (λ y. list_any (bytes_eq y) memory_kinds) (after_lacks x h)

flag_no_kind : (x : Name) → Lacks colon x → NoKind (flag_name x)
flag_no_kind x h = ap (λ y. list_any (bytes_eq y) memory_kinds) (after_both x (codes ":i") h)

-- ---- bases

abbrev AllLack : List Name → Type 0
AllLack [] = Unit {0}
AllLack (x ∷ xs) = Lacks colon x × AllLack xs

abbrev NoKinds : List Name → Type 0
NoKinds [] = Unit {0}
NoKinds (x ∷ xs) = NoKind x × NoKinds xs

both_no_kinds : (xs ys : List Name) → NoKinds xs → NoKinds ys → NoKinds (xs ++ ys)
both_no_kinds [] ys h k = k
both_no_kinds (x ∷ xs) ys h k = (h.0, both_no_kinds xs ys h.1 k)

c_all_lack : (xs : List Name) → list_all is_c_name xs ≡ true → AllLack xs
c_all_lack [] h = tt
c_all_lack (x ∷ xs) h = let parts = and_parts (is_c_name x) (list_all is_c_name xs) h in (c_lacks x parts.0, c_all_lack xs parts.1)

pairs_no_kinds : (xs : List Name) → AllLack xs → NoKinds (pairs_of xs)
pairs_no_kinds [] h = tt
pairs_no_kinds (x ∷ xs) h = (no_kind x h.0, (flag_no_kind x h.0, pairs_no_kinds xs h.1))

shown_lacks : (hidden : Bool) (x : Name) → Lacks colon x → Lacks colon (shown_as hidden x)
shown_lacks true x h = ((λ e. omega (arith, e)), h)
shown_lacks false x h = h

own_lack : (gs : List Name) (n : ℕ) (xs : List Name) → AllLack xs → AllLack (own_names gs n xs)
own_lack gs n [] h = tt
own_lack gs n (x ∷ xs) h = (shown_lacks (nat_lt 0 n && is_among x gs) x h.0, own_lack gs (n - 1) xs h.1)

digits_lack : (ds : List ℕ) → AllBelowBase 10 ds → Lacks colon (map (λ d. 48 + d) ds)
digits_lack [] h = tt
digits_lack (d ∷ ds) h = ((λ e. let less = h.0 in omega (arith, e, less)), digits_lack ds h.1)

temporary_lacks : (n : ℕ) → Lacks colon (temporary_name n)
temporary_lacks n = ((λ e. omega (arith, e)), digits_lack (digits_of 10 n) (all_below_base_digits_of 10 n (omega arith)))

temporaries_no_kinds : (n k : ℕ) → NoKinds (temporary_names n k)
temporaries_no_kinds n zero = tt
temporaries_no_kinds n (suc k) = (no_kind (temporary_name n) (temporary_lacks n), temporaries_no_kinds (suc n) k)

bases_no_kinds : (gs : List Name) (n : ℕ) (xs : List Name) (k : ℕ) → AllLack gs → AllLack xs → NoKinds (slot_bases gs n xs k)
bases_no_kinds gs n xs k h l =
    both_no_kinds (pairs_of gs) (pairs_of (own_names gs n xs) ++ behind_variables k) (pairs_no_kinds gs h)
    (both_no_kinds (pairs_of (own_names gs n xs)) (behind_variables k) (pairs_no_kinds (own_names gs n xs) (own_lack gs n xs l)) (refl, (refl, temporaries_no_kinds 1 k)))

integers : (xs : List Name) → AreNames xs → NoKinds xs → AreIntegerNames xs
integers [] h k = tt
integers (x ∷ xs) h k = (record { name = h.0; behind = k.0 }, integers xs h.1 k.1)

pub integer_bases : (gs : List Name) (n : ℕ) (xs : List Name) (k : ℕ) → (list_all is_c_name gs && list_all is_c_name xs) ≡ true → AreNames (slot_bases gs n xs k)
    → AreIntegerNames (slot_bases gs n xs k)
integer_bases gs n xs k h names =
    let parts = and_parts (list_all is_c_name gs) (list_all is_c_name xs) h in
    integers (slot_bases gs n xs k) names (bases_no_kinds gs n xs k (c_all_lack gs parts.0) (c_all_lack xs parts.1))
