-- Fields of comma-separated values: what is written is read.
use Rattle.std.proofs.Common.{◌≡◌, ℕ, ◌<◌, eqb, Bool, true, false, not, cond, ◌||◌, ◌&&◌, List, [], ◌∷◌, ◌++◌, length, map, Option, Some, None, refl, sym, ap, ◌∙◌, arith, append_assoc, eqb-true}
use Rattle.std.specs.List.{list_all, list_any}
use Rattle.goal_words.specs.Bytes.{expect}
use Rattle.report_read.specs.Bytes.{joined, all_of}
use Rattle.report_read.proofs.Many.{all_read, bytes_read}
use Rattle.report_data.specs.Json.{ended}
use Rattle.report_data.specs.Csv.{is_special, doubled, quoted, field, next_field, quoted_at, plain_at, field_by, field_at, next_field_at}

-- ---- quoted fields

doubled_read : (b : ℕ) (rest : List ℕ) → quoted_at (doubled b ++ rest) ≡ Some (b, rest)
unfolding quoted_at doubled
doubled_read b rest = by (eqb b 34) refl
  where
    by : (t : Bool) → eqb b 34 ≡ t → quoted_at (cond t (34 ∷ 34 ∷ []) (b ∷ []) ++ rest) ≡ Some (b, rest)
    by true e = let found : ℕ → Option (ℕ × List ℕ) = λ c. Some (c, rest) in ap found (sym (eqb-true b 34 e))
    by false e = rw e

some_doubled : (b : ℕ) → 0 < length (doubled b)
unfolding doubled
some_doubled b = by (eqb b 34)
  where
    by : (t : Bool) → 0 < length (cond t (34 ∷ 34 ∷ []) (b ∷ []))
    by true = omega arith
    by false = omega arith

quote_ends : (rest : List ℕ) → expect 34 rest ≡ None → quoted_at (34 ∷ rest) ≡ None
unfolding quoted_at
quote_ends rest h = ap (ended 34) h

any_byte : ℕ → Bool
any_byte b = true

all_bytes : (f : List ℕ) → list_all any_byte f ≡ true
unfolding any_byte
all_bytes [] = refl
all_bytes (b ∷ f) = all_bytes f

quoted_read : (f rest : List ℕ) → expect 34 rest ≡ None → field_by (quoted f ++ rest) (expect 34 (quoted f ++ rest)) ≡ Some (f, rest)
quoted_read f rest h =
    let end : List ℕ × List ℕ → Option (List ℕ × List ℕ) = λ p. ended p.0 (expect 34 p.1) in
    ap (λ bytes. end (all_of quoted_at bytes)) (append_assoc (joined (map doubled f)) (34 ∷ []) rest)
    ∙ ap end (all_read quoted_at doubled any_byte (λ _. Unit {0}) (λ b r i k. doubled_read b r) (λ b r. tt) some_doubled f (34 ∷ rest) (all_bytes f) tt (quote_ends rest h))

-- ---- fields that aren't quoted

abbrev is_plain : ℕ → Bool
is_plain b = not (is_special b)

plain_read : (b : ℕ) (rest : List ℕ) → is_plain b ≡ true → plain_at (b ∷ rest) ≡ Some (b, rest)
unfolding plain_at
plain_read b rest h = by (is_special b) h
  where
    by : (t : Bool) → not t ≡ true → cond {A = Option (ℕ × List ℕ)} t None (Some (b, rest)) ≡ Some (b, rest)
    by true k = absurd cc
    by false k = refl

none_special : (f : List ℕ) → list_any is_special f ≡ false → list_all is_plain f ≡ true
none_special [] h = refl
none_special (b ∷ f) h = by (is_special b) refl (none_special f) h
  where
    by : (t : Bool) → is_special b ≡ t → (list_any is_special f ≡ false → list_all is_plain f ≡ true) → (t || list_any is_special f) ≡ false → (not (is_special b) && list_all is_plain f) ≡ true
    by true e more k = absurd cc
    by false e more k = rw e (more k)

no_quote : (f rest : List ℕ) → list_any is_special f ≡ false → expect 34 rest ≡ None → expect 34 (f ++ rest) ≡ None
no_quote [] rest h k = k
no_quote (b ∷ f) rest h k = by (eqb b 34) h
  where
    by : (t : Bool) → (((t || eqb b 44) || eqb b 13) || eqb b 10) || list_any is_special f ≡ false → cond t (Some (f ++ rest)) None ≡ None
    by true k = absurd cc
    by false k = refl

plainly_read : (f rest : List ℕ) → list_any is_special f ≡ false → plain_at rest ≡ None → expect 34 rest ≡ None → field_by (f ++ rest) (expect 34 (f ++ rest)) ≡ Some (f, rest)
plainly_read f rest h none k =
    ap (field_by (f ++ rest)) (no_quote f rest h k) ∙ ap Some (bytes_read plain_at is_plain plain_read f rest (none_special f h) none)

-- ---- any field

-- what may stand behind a field
pub record Ends (rest : List ℕ) : Type 0 where
  pub plain : plain_at rest ≡ None
  pub quote : expect 34 rest ≡ None

pub field_read : (f rest : List ℕ) → Ends rest → field_at (field f ++ rest) ≡ Some (f, rest)
unfolding field_at field
field_read f rest k = by (list_any is_special f) refl
  where
    by : (t : Bool) → list_any is_special f ≡ t → field_by (cond t (quoted f) f ++ rest) (expect 34 (cond t (quoted f) f ++ rest)) ≡ Some (f, rest)
    by true e = quoted_read f rest k.quote
    by false e = plainly_read f rest e k.plain k.quote

pub next_read : (f rest : List ℕ) → Ends rest → next_field_at (next_field f ++ rest) ≡ Some (f, rest)
unfolding next_field_at
next_read f rest k = field_read f rest k

pub comma_ends : (rest : List ℕ) → Ends (44 ∷ rest)
unfolding plain_at
comma_ends rest = record { plain = refl; quote = refl }

pub row_ends : (rest : List ℕ) → Ends (13 ∷ rest)
unfolding plain_at
row_ends rest = record { plain = refl; quote = refl }
