-- The rows of a table whose texts stand at the front of a text: the first is the longest.
use Rattle.std.proofs.Common.{◌≡◌, ℕ, ◌<◌, ◌≤◌, eqb, Bool, true, false, not, ◌&&◌, List, [], ◌∷◌, length, take, Option, Some, None, refl, sym, ap, ◌∙◌, ⊎_elim, arith}
use Rattle.std.specs.Prelude.{find}
use Rattle.std.specs.List.{list_all}
use Rattle.std.specs.Str.{bytes_eq}
use Rattle.std.proofs.lemmas.Bool.{cases_Bool, false≢true}
use Rattle.std.proofs.lemmas.Bool.Decides.{nat_tests, Decides-eqb}
use Rattle.std.proofs.lemmas.Slice.Eq.{bytes_eq-Decides}
use Rattle.std.proofs.lemmas.List.{length-take-le, length-take}
use Rattle.c_lexer.specs.Bytes.{begins}
use Rattle.c_lexer.specs.Tables.{Row, is_in, row_of}
use Rattle.c_lexer.specs.Scan.{in_front}

pub and_false : (a b : Bool) → b ≡ false → (a && b) ≡ false
and_false true b h = h
and_false false b h = refl

pub and_left : (a b : Bool) → (a && b) ≡ true → a ≡ true
and_left true b h = refl
and_left false b h = absurd (false≢true h)

pub and_right : (a b : Bool) → (a && b) ≡ true → b ≡ true
and_right true b h = h
and_right false b h = absurd (false≢true h)

-- ---- a table none of whose texts begins as these bytes

text_differs : (test : ℕ → Bool) (text bytes : List ℕ) (others : Bool) → (not (begins test text) && others) ≡ true → begins test bytes ≡ true → bytes_eq text bytes ≡ false
text_differs test text bytes others h first =
    ⊎_elim
    (λ t.
    let same = ap (begins test) ((bytes_eq-Decides text bytes).0 t) ∙ first in
    let never : false ≡ true = rw same at h in absurd (false≢true never))
    (λ f. f) (cases_Bool (bytes_eq text bytes))

pub no_row : {X : Type 0} (test : ℕ → Bool) (rows : List (Row X)) (annotated : Bool) (bytes : List ℕ) → list_all (λ row. not (begins test row.0)) rows ≡ true → begins test bytes ≡ true → row_of rows annotated bytes ≡ None
no_row test [] annotated bytes h first = refl
no_row test (row ∷ rows) annotated bytes h first =
    rw (and_false (is_in annotated row.2) _ (text_differs test row.0 bytes _ h first)) (no_row test rows annotated bytes (and_right (not (begins test row.0)) _ h) first)

-- ---- a front of the bytes is the text exactly where the text stands at the front, and it has the text's length

text_at : (text bytes : List ℕ) (k : ℕ) → k ≤ length bytes → bytes_eq text (take k bytes) ≡ (bytes_eq text (take (length text) bytes) && eqb (length text) k)
text_at text bytes k le =
    ⊎_elim
    (λ t.
    let e : text ≡ take k bytes = (bytes_eq-Decides text (take k bytes)).0 t in
    let n : length text ≡ k = ap length e ∙ length-take-le k bytes le in
    let here : bytes_eq text (take (length text) bytes) ≡ true = ap (λ k. bytes_eq text (take k bytes)) n ∙ t in
    let long : eqb (length text) k ≡ true = (Decides-eqb (length text) k).1 n in
    t ∙ sym (rw (here, long) refl))
    (λ f.
    ⊎_elim
    (λ long.
    let n = (Decides-eqb (length text) k).0 long in
    let here : bytes_eq text (take (length text) bytes) ≡ false = ap (λ k. bytes_eq text (take k bytes)) n ∙ f in
    f ∙ sym (rw here refl))
    (λ short. f ∙ sym (and_false _ _ short))
    (cases_Bool (eqb (length text) k)))
    (cases_Bool (bytes_eq text (take k bytes)))

-- the rows at the front, of a length
abbrev pub has_length : {X : Type 0} → (Row X → Bool) → ℕ → Row X → Bool
has_length front k row = front row && eqb (length row.0) k

row_at : {X : Type 0} (row : Row X) (annotated : Bool) (bytes : List ℕ) (k : ℕ) → k ≤ length bytes → (is_in annotated row.2 && bytes_eq row.0 (take k bytes)) ≡ has_length (in_front annotated bytes) k row
row_at row annotated bytes k le = ap (λ b. is_in annotated row.2 && b) (text_at row.0 bytes k le) ∙ grouped (is_in annotated row.2) _ _
  where
    grouped : (a b c : Bool) → (a && (b && c)) ≡ (a && b && c)
    grouped true b c = refl
    grouped false b c = refl

pub rows_at : {X : Type 0} (rows : List (Row X)) (annotated : Bool) (bytes : List ℕ) (k : ℕ) → k ≤ length bytes → row_of rows annotated (take k bytes) ≡ find (has_length (in_front annotated bytes) k) rows
rows_at rows annotated bytes k le = ap (λ test. find test rows) (λ i row. row_at row annotated bytes k le i)

-- the rows have bytes, and none is longer than the one before it
abbrev pub Falls : {X : Type 0} → (n : ℕ) → List (Row X) → Type 0
Falls n [] = Unit {0}
Falls n (row ∷ rows) = (0 < length row.0) × (length row.0 ≤ n) × Falls (length row.0) rows

other_length : {X : Type 0} (row : Row X) (front : Row X → Bool) (k : ℕ) → length row.0 < k → has_length front k row ≡ false
other_length row front k lt = let other : eqb (length row.0) k ≡ false = grind (arith, nat_tests) in and_false (front row) _ other

all_shorter : {X : Type 0} (n : ℕ) (rows : List (Row X)) (front : Row X → Bool) (k : ℕ) → Falls n rows → n < k → find (has_length front k) rows ≡ None
all_shorter n [] front k falls lt = refl
all_shorter n (row ∷ rows) front k falls lt = rw (other_length row front k (omega arith)) (all_shorter (length row.0) rows front k falls.2 (omega arith))

-- the first row at the front is the only one of its length, and none there is longer
abbrev pub IsFirst : {X : Type 0} → (Row X → Bool) → List (Row X) → Option (Row X) → Type 0
IsFirst front rows None = (k : ℕ) → find (has_length front k) rows ≡ None
IsFirst front rows (Some row) =
    (front row ≡ true) × (0 < length row.0) × (find (has_length front (length row.0)) rows ≡ Some row) × ((k : ℕ) → length row.0 < k → find (has_length front k) rows ≡ None)

behind : {X : Type 0} (row : Row X) (rows : List (Row X)) (front : Row X → Bool) (found : Option (Row X)) → front row ≡ false → IsFirst front rows found → IsFirst front (row ∷ rows) found
behind row rows front None f h = λ k. rw f (h k)
behind row rows front (Some found) f h = (h.0, h.1, rw f h.2, λ k lt. rw f (h.3 k lt))

pub first_found : {X : Type 0} (n : ℕ) (rows : List (Row X)) (front : Row X → Bool) → Falls n rows → IsFirst front rows (find front rows)
first_found n [] front falls = λ k. refl
first_found n (row ∷ rows) front falls =
    ⊎_elim
    (λ t.
    let alone : eqb (length row.0) (length row.0) ≡ true = (Decides-eqb (length row.0) (length row.0)).1 refl in
    rw t (t, falls.0, rw (t, alone) refl, λ k lt. rw (other_length row front k lt) (all_shorter (length row.0) rows front k falls.2 lt)))
    (λ f. rw f (behind row rows front (find front rows) f (first_found (length row.0) rows front falls.2)))
    (cases_Bool (front row))

pub front_within : {X : Type 0} (row : Row X) (annotated : Bool) (bytes : List ℕ) → in_front annotated bytes row ≡ true → length row.0 ≤ length bytes
front_within row annotated bytes h =
    let e = ap length ((bytes_eq-Decides row.0 (take (length row.0) bytes)).0 (and_right (is_in annotated row.2) _ h)) in
    omega (arith, e, length-take (length row.0) bytes)

-- what stands at the front begins as the bytes do
pub front_begins : {X : Type 0} (test : ℕ → Bool) (row : Row X) (annotated : Bool) (bytes : List ℕ) → in_front annotated bytes row ≡ true → 0 < length row.0 → begins test row.0 ≡ begins test bytes
front_begins test row annotated [] h lt = absurd (omega (arith, front_within row annotated [] h))
front_begins test row annotated (b ∷ bytes) h lt = by_text row.0 lt ((bytes_eq-Decides row.0 (take (length row.0) (b ∷ bytes))).0 (and_right (is_in annotated row.2) _ h))
  where
    by_text : (text : List ℕ) → 0 < length text → text ≡ take (length text) (b ∷ bytes) → begins test text ≡ test b
    by_text [] lt e = absurd (omega arith)
    by_text (c ∷ text) lt e = ap (begins test) e

-- no text of the table begins as these bytes do
pub no_front : {X : Type 0} (test : ℕ → Bool) (rows : List (Row X)) (annotated : Bool) (bytes : List ℕ) → list_all (λ row. begins test row.0) rows ≡ true → begins test bytes ≡ false → find (in_front annotated bytes) rows ≡ None
no_front test [] annotated bytes h first = refl
no_front test (row ∷ rows) annotated bytes h first =
    ⊎_elim
    (λ t. absurd (false≢true (sym first ∙ sym (front_begins test row annotated bytes t (has_bytes row.0 (and_left (begins test row.0) _ h))) ∙ and_left (begins test row.0) _ h)))
    (λ f. rw f (no_front test rows annotated bytes (and_right (begins test row.0) _ h) first))
    (cases_Bool (in_front annotated bytes row))
  where
    has_bytes : (text : List ℕ) → begins test text ≡ true → 0 < length text
    has_bytes [] h = absurd (false≢true h)
    has_bytes (b ∷ text) h = omega arith
