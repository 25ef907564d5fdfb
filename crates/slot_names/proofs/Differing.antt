-- Names that are put into a table one after the other.
use Rattle.std.proofs.Common.{◌≡◌, ◌<◌, ◌≤◌, ℕ, zero, suc, ◌+◌, Bool, true, false, List, [], ◌∷◌, ◌++◌, take, drop, length, get_or, refl, ap, sym, ◌∙◌, subst, true≢false, cond, arith}
use Rattle.std.specs.Prelude.{◌&&◌, ◌||◌, if◌then◌else◌, not, Some, None}
use Rattle.std.specs.List.{list_any}
use Rattle.std.specs.Str.{bytes_eq}
use Rattle.std.proofs.lemmas.Slice.Eq.{bytes_eq-Decides}
use Rattle.std.specs.Option.{is_none}
use Rattle.std.specs.Prelude.{min}
use Rattle.std.proofs.lemmas.Bool.{and_parts}
use Rattle.std.proofs.lemmas.List.{take_more}
use Rattle.name_table.specs.Names.{Names, meaning_of, is_free, declared}
use Rattle.slot_names.specs.Bases.{Name, is_among, differ}

-- the table has these names
pub record Holds (ds : Names Bool) (xs : List Name) : Type 0 where
  pub free : (x : Name) → is_free ds x ≡ not (is_among x xs)

pub holds_none : Holds [] []
holds_none = record { free = λ x. refl }

-- one more at the end
among_more : (x y : Name) (xs : List Name) → is_among x (xs ++ y ∷ []) ≡ (is_among x xs || bytes_eq x y)
among_more x y [] = by (bytes_eq x y)
  where
    by : (b : Bool) → (b || false) ≡ (false || b)
    by true = refl
    by false = refl
among_more x y (z ∷ xs) = ap (λ b. bytes_eq x z || b) (among_more x y xs) ∙ by (bytes_eq x z)
  where
    by : (b : Bool) → (b || (is_among x xs || bytes_eq x y)) ≡ ((b || is_among x xs) || bytes_eq x y)
    by true = refl
    by false = refl

free_more : (ds : Names Bool) (x y : Name) → is_free (ds ++ (y, true) ∷ []) x ≡ (is_free ds x && not (bytes_eq x y))
free_more [] x y = by (bytes_eq x y)
  where
    by : (b : Bool) → is_none (if b then Some true else None) ≡ (true && not b)
    by true = refl
    by false = refl
free_more (d ∷ ds) x y = by (free_more ds x y) (bytes_eq x d.0)
  where
    by : is_free (ds ++ (y, true) ∷ []) x ≡ (is_free ds x && not (bytes_eq x y)) → (b : Bool)
        → is_none (if b then Some d.1 else meaning_of (ds ++ (y, true) ∷ []) x) ≡ (is_none (if b then Some d.1 else meaning_of ds x) && not (bytes_eq x y))
    by h true = refl
    by h false = h

neither : (a b : Bool) → (a || b) ≡ false → (a ≡ false) × (b ≡ false)
neither true b e = absurd (true≢false e)
neither false b e = (refl, e)

differ_more : (xs : List Name) (y : Name) → differ xs ≡ true → is_among y xs ≡ false → differ (xs ++ y ∷ []) ≡ true
differ_more [] y h k = refl
differ_more (x ∷ xs) y h k =
    let both = and_parts (not (is_among x xs)) (differ xs) h in
    let apart = neither (bytes_eq y x) (is_among y xs) k in
    both_true (not (is_among x (xs ++ y ∷ []))) (differ (xs ++ y ∷ []))
    (ap not (among_more x y xs ∙ none_of (is_among x xs) (bytes_eq x y) (flip (is_among x xs) both.0) (turned x y apart.0))) (differ_more xs y both.1 apart.1)
  where
    flip : (b : Bool) → not b ≡ true → b ≡ false
    flip true e = absurd (true≢false (sym e))
    flip false e = refl

    none_of : (a b : Bool) → a ≡ false → b ≡ false → (a || b) ≡ false
    none_of a b e f = λ i. e i || f i

    both_true : (a b : Bool) → a ≡ true → b ≡ true → (a && b) ≡ true
    both_true a b e f = λ i. e i && f i

    turned : (x y : Name) → bytes_eq y x ≡ false → bytes_eq x y ≡ false
    turned x y e = by (bytes_eq x y) refl
      where
        by : (b : Bool) → bytes_eq x y ≡ b → b ≡ false
        by true k = absurd (true≢false (sym ((bytes_eq-Decides y x).1 (sym ((bytes_eq-Decides x y).0 k))) ∙ e))
        by false k = refl

-- ---- a turn of the loop

-- a name that wasn't there
pub turn_held : (ds ds' : Names Bool) (names : List Name) (i : ℕ) (x : Name) → i < length names → x ≡ get_or names i x → ds' ≡ declared ds x true → is_free ds x ≡ true
    → Holds ds (take i names) → Holds ds' (take (i + 1) names)
turn_held ds ds' names i x lt e d f h = record {
  free = λ y.
      ap (λ t. is_free t y) (d ∙ ap (λ b. if b then ds ++ (x, true) ∷ [] else ds) f) ∙ free_more ds y x ∙ ap (λ b. b && not (bytes_eq y x)) (h.free y)
      ∙ both (is_among y (take i names)) (bytes_eq y x) ∙ ap not (sym (among_more y x (take i names)))
      ∙ ap (λ xs. not (is_among y xs)) (sym (take_more names i x lt ∙ ap (λ z. take i names ++ z ∷ []) (sym e)));
}
  where
    both : (a b : Bool) → (not a && not b) ≡ not (a || b)
    both true b = refl
    both false b = refl

pub turn_so : (ds : Names Bool) (names : List Name) (i : ℕ) (x : Name) → i < length names → x ≡ get_or names i x → is_free ds x ≡ true
    → Holds ds (take i names) → differ (take i names) ≡ true → differ (take (i + 1) names) ≡ true
turn_so ds names i x lt e f h k =
    ap differ (take_more names i x lt ∙ ap (λ z. take i names ++ z ∷ []) (sym e)) ∙ differ_more (take i names) x k (flipped (is_among x (take i names)) (sym (h.free x) ∙ f))
  where
    flipped : (b : Bool) → not b ≡ true → b ≡ false
    flipped true e = absurd (true≢false (sym e))
    flipped false e = refl

-- one that was
repeated : (xs ys : List Name) (x : Name) → is_among x xs ≡ true → differ (xs ++ x ∷ ys) ≡ false
repeated [] ys x h = absurd (true≢false (sym h))
repeated (z ∷ xs) ys x h = by (λ k. repeated xs ys x k) (bytes_eq x z) refl
  where
    there : (zs : List Name) → is_among x (zs ++ x ∷ ys) ≡ true
    there [] = ap (λ b. b || is_among x ys) ((bytes_eq-Decides x x).1 refl)
    there (y ∷ zs) = ap (λ b. bytes_eq x y || b) (there zs) ∙ any (bytes_eq x y)
      where
        any : (b : Bool) → (b || true) ≡ true
        any true = refl
        any false = refl

    by : (is_among x xs ≡ true → differ (xs ++ x ∷ ys) ≡ false) → (b : Bool) → bytes_eq x z ≡ b → (not (is_among z (xs ++ x ∷ ys)) && differ (xs ++ x ∷ ys)) ≡ false
    by less true e = ap (λ t. not (is_among t (xs ++ x ∷ ys)) && differ (xs ++ x ∷ ys)) (sym ((bytes_eq-Decides x z).0 e)) ∙ ap (λ b. not b && differ (xs ++ x ∷ ys)) (there xs)
    by less false e = ap (λ b. not (is_among z (xs ++ x ∷ ys)) && b) (less (sym (ap (λ b. b || is_among x xs) e) ∙ h)) ∙ none (not (is_among z (xs ++ x ∷ ys)))
      where
        none : (b : Bool) → (b && false) ≡ false
        none true = refl
        none false = refl

cut : (names : List Name) (i count : ℕ) (x : Name) → i < count → i < length names → x ≡ get_or names i x
    → (ys : List Name) × (take count names ≡ take i names ++ x ∷ ys)
cut [] i count x lt le e = absurd (omega (arith, le))
cut (y ∷ names) i zero x lt le e = absurd (omega (arith, lt))
cut (y ∷ names) zero (suc count) x lt le e = (take count names, ap (λ z. z ∷ take count names) (sym e))
cut (y ∷ names) (suc i) (suc count) x lt le e = let rest = cut names i count x (omega (arith, lt)) (omega (arith, le)) e in (rest.0, ap (λ zs. y ∷ zs) rest.1)

pub stops : (ds : Names Bool) (names : List Name) (i count : ℕ) (x : Name) → i < min count (length names) → x ≡ get_or names i x → is_free ds x ≡ false → Holds ds (take i names)
    → false ≡ differ (take count names)
stops ds names i count x lt e f h =
    let whole = cut names i count x (omega (arith, lt)) (omega (arith, lt)) e in
    sym (ap differ whole.1 ∙ repeated (take i names) whole.0 x (there (is_among x (take i names)) (sym (h.free x) ∙ f)))
  where
    there : (b : Bool) → not b ≡ false → b ≡ true
    there true e = refl
    there false e = absurd (true≢false e)

-- none is left
enough : (names : List Name) (count : ℕ) → take (min count (length names)) names ≡ take count names
enough [] count = none count
  where
    none : (n : ℕ) → take {A = Name} (min n 0) [] ≡ take n []
    none zero = refl
    none (suc n) = ap (λ m. take {A = Name} m []) least
      where
        least : min (suc n) 0 ≡ 0
        least = omega (arith)
enough (x ∷ names) zero = ap (λ m. take {A = Name} m (x ∷ names)) least
  where
    least : min 0 (length (x ∷ names)) ≡ 0
    least = omega (arith)
enough (x ∷ names) (suc n) = ap (λ m. take m (x ∷ names)) one ∙ ap (λ zs. x ∷ zs) (enough names n)
  where
    one : min (suc n) (suc (length names)) ≡ suc (min n (length names))
    one = omega (arith)

pub ends : (names : List Name) (i count : ℕ) → i ≡ min count (length names) → differ (take i names) ≡ true → true ≡ differ (take count names)
ends names i count e h = sym h ∙ ap differ (ap (λ m. take m names) e ∙ enough names count)

pub ruleset differ_laws = (holds_none, turn_held, turn_so, stops, ends)
