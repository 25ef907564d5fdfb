-- The first declarations of a table.
use Rattle.std.proofs.Common.{◌≡◌, ℕ, zero, suc, Bool, true, false, cond, List, [], ◌∷◌, Option, Some, None, refl, sym, ap, ◌∙◌, ◌+◌, nat_lt, length, position, if◌then◌else◌, not, arith, true≢false, ◌<◌, ◌≤◌}
use Rattle.std.specs.Str.{bytes_eq}
use Rattle.std.specs.List.{position_or_len}
use Rattle.std.specs.Map.{keys_of}
use Rattle.std.specs.declared.vec.Vec.{Vec}
use Rattle.name_table.specs.Names.{Names, meaning_of, meaning_among, declarations}

-- how many names stand before this one
abbrev before : {Z V : Type 0} → List ℕ → List (Vec ℕ Z × V) → ℕ
before x ds = position_or_len (λ k. bytes_eq x k.items) (keys_of ds)

abbrev pub place : {Z V : Type 0} → List ℕ → List (Vec ℕ Z × V) → Option ℕ
place x ds = position (λ k. bytes_eq x k.items) (keys_of ds)

-- what is found, where its place is among the first so many
abbrev within : {V : Type 0} → ℕ → Option ℕ → Option V → Option V
within n None v = None
within n (Some i) v = if nat_lt i n then v else None

abbrev if_less : {V : Type 0} → ℕ → ℕ → Option V → Option V
if_less i n v = if nat_lt i n then v else None

none_less : {V : Type 0} (i : ℕ) (v : Option V) → None ≡ if_less i zero v
none_less i v = by (nat_lt i zero) refl
  where
    by : (b : Bool) → nat_lt i zero ≡ b → None ≡ (if b then v else None)
    by true h = grind arith
    by false h = refl

less_suc : (i n : ℕ) → nat_lt i n ≡ nat_lt (1 + i) (suc n)
less_suc i n = grind arith

zero_less : (n : ℕ) → nat_lt zero (suc n) ≡ true
zero_less n = grind arith

among : {Z V : Type 0} (n : ℕ) (ds : List (Vec ℕ Z × V)) (x : List ℕ) → meaning_among n (declarations ds) x ≡ if_less (before x ds) n (meaning_of (declarations ds) x)
among zero ds x = none_less (before x ds) (meaning_of (declarations ds) x)
among (suc n) [] x = sym (ap (λ b. if b then None else None) (zero_less n))
among (suc n) (d ∷ ds) x = step (bytes_eq x d.0.items) (among n ds x)
  where
    -- by whether the first name is this one
    step : (b : Bool) → meaning_among n (declarations ds) x ≡ if_less (before x ds) n (meaning_of (declarations ds) x)
        → (if b then Some d.1 else meaning_among n (declarations ds) x)
        ≡ if_less (cond (not b) (1 + before x ds) 0) (suc n) (if b then Some d.1 else meaning_of (declarations ds) x)
    step true rest = sym (ap (λ b. if b then Some d.1 else None) (zero_less n))
    step false rest = rest ∙ ap (λ b. if b then meaning_of (declarations ds) x else None) (less_suc (before x ds) n)

-- a name that stands nowhere means nothing
missing : {Z V : Type 0} (ds : List (Vec ℕ Z × V)) (x : List ℕ) → nat_lt (before x ds) (length (keys_of ds)) ≡ false → None ≡ meaning_of (declarations ds) x
missing [] x h = refl
missing (d ∷ ds) x h = step (bytes_eq x d.0.items) h (missing ds x)
  where
    step : (b : Bool) → nat_lt (cond (not b) (1 + before x ds) 0) (suc (length (keys_of ds))) ≡ false
        → (nat_lt (before x ds) (length (keys_of ds)) ≡ false → None ≡ meaning_of (declarations ds) x) → None ≡ (if b then Some d.1 else meaning_of (declarations ds) x)
    step true g rest = absurd (true≢false (sym (zero_less (length (keys_of ds))) ∙ g))
    step false g rest = rest (less_suc (before x ds) (length (keys_of ds)) ∙ g)

no_matter : {V : Type 0} (b : Bool) (v : Option V) → (if b then v else v) ≡ v
no_matter true v = refl
no_matter false v = refl

placed : {Z V : Type 0} (n : ℕ) (ds : List (Vec ℕ Z × V)) (x : List ℕ) → if_less (before x ds) n (meaning_of (declarations ds) x) ≡ within n (place x ds) (meaning_of (declarations ds) x)
placed n ds x = by (nat_lt (before x ds) (length (keys_of ds))) refl
  where
    by : (b : Bool) → nat_lt (before x ds) (length (keys_of ds)) ≡ b
        → if_less (before x ds) n (meaning_of (declarations ds) x) ≡ within n (cond b (Some (before x ds)) None) (meaning_of (declarations ds) x)
    by true h = refl
    by false h = ap (if_less (before x ds) n) (sym (missing ds x h)) ∙ no_matter (nat_lt (before x ds) n) None

among_by : {Z V : Type 0} (all : Names V) (es : List (Vec ℕ Z × V)) (n : ℕ) (x : List ℕ) (o : Option ℕ) → all ≡ declarations es → o ≡ place x es
    → meaning_among n all x ≡ within n o (meaning_of all x)
among_by all es n x o whole_is found =
    ap (λ ds. meaning_among n ds x) whole_is ∙ among n es x ∙ placed n es x ∙ ap (λ i. within n i (meaning_of (declarations es) x)) (sym found)
    ∙ ap (λ ds. within n o (meaning_of ds x)) (sym whole_is)

less_if : (i n : ℕ) → i < n → nat_lt i n ≡ true
less_if i n h = grind arith

late_if : (i n : ℕ) → n ≤ i → nat_lt i n ≡ false
late_if i n h = grind arith

pub missing_among : {Z V : Type 0} (all : Names V) (es : List (Vec ℕ Z × V)) (n : ℕ) (x : List ℕ) → all ≡ declarations es → None ≡ place x es → None ≡ meaning_among n all x
missing_among all es n x whole_is found = sym (among_by all es n x None whole_is found)

pub found_among : {Z V : Type 0} (all : Names V) (es : List (Vec ℕ Z × V)) (n : ℕ) (x : List ℕ) (i : ℕ) (v : Option V) → all ≡ declarations es → Some i ≡ place x es → i < n
    → v ≡ meaning_of all x → v ≡ meaning_among n all x
found_among all es n x i v whole_is found h is =
    is ∙ ap (λ b. if b then meaning_of all x else None) (sym (less_if i n h)) ∙ sym (among_by all es n x (Some i) whole_is found)

pub late_among : {Z V : Type 0} (all : Names V) (es : List (Vec ℕ Z × V)) (n : ℕ) (x : List ℕ) (i : ℕ) → all ≡ declarations es → Some i ≡ place x es → n ≤ i
    → None ≡ meaning_among n all x
late_among all es n x i whole_is found h =
    ap (λ b. if b then meaning_of all x else None) (sym (late_if i n h)) ∙ sym (among_by all es n x (Some i) whole_is found)
