-- Blocks, cells and kinds: what is old, what is new, and what a stored cell leaves.
use Rattle.std.proofs.Common.{◌≡◌, ℕ, zero, suc, ◌<◌, ◌≤◌, ℤ, pos, negsuc, ◌-ℤ◌, Bool, true, false, ◌&&◌, ◌||◌, if◌then◌else◌, List, [], ◌∷◌, ◌++◌, length, slice_get, Option, Some, None, refl, ap, ap₂, arith}
use Rattle.std.specs.Prelude.{◌==◌, int_lt}
use Rattle.std.specs.List.{list_any, list_all}
use Rattle.std.specs.Option.{unwrap_or}
use Rattle.std.proofs.lemmas.Bool.{false≢true, and_parts, lt-ltb}
use Rattle.std.proofs.lemmas.Bool.Decides.{Decides-eqb}
use Rattle.std.proofs.lemmas.Int.{ints}
use Rattle.wp_base.specs.declared.kinds.CellKind.{CellKind}
use Rattle.wp_base.specs.Kinds.{cell_place}
use Rattle.wp_base.specs.Blocks.{Table, count, or_ended, block_at, block_cells, same_cell, is_some_cell, has_cell, is_cell}
use Rattle.qed_terms.specs.Operators.{is_zero, is_equal}
use Rattle.c_runs.specs.TruthStates.{Value, cells_of, covers}
use Rattle.c_runs.specs.TruthAllowed.{has_kind, lies_in}
use Rattle.c_runs.specs.States.{at, with_cell}
use Rattle.c_runs.specs.Effects.{cell_in}

-- ---- tests

pub if_by : {X : Type 0} (P : X → Type 0) (t : Bool) (a b : X) → P a → P b → P (if t then a else b)
if_by P true a b x y = x
if_by P false a b x y = y

pub at_by : {X : Type 0} (P : X → Type 0) (x : ℕ) (v : X) (f : ℕ → X) (y : ℕ) → P v → P (f y) → P (at x v f y)
at_by P x v f y hit miss = if_by P (x == y) v (f y) hit miss

pub all_first : {X : Type 0} (f : X → Bool) (xs ys : List X) → list_all f (xs ++ ys) ≡ true → list_all f xs ≡ true
all_first f [] ys h = refl
all_first f (x ∷ xs) ys h = let t = and_parts (f x) (list_all f (xs ++ ys)) h in ap₂ (λ a b. a && b) t.0 (all_first f xs ys t.1)

pub all_second : {X : Type 0} (f : X → Bool) (xs ys : List X) → list_all f (xs ++ ys) ≡ true → list_all f ys ≡ true
all_second f [] ys h = h
all_second f (x ∷ xs) ys h = all_second f xs ys (and_parts (f x) (list_all f (xs ++ ys)) h).1

-- ---- numbers of blocks

-- that of a block of the table
abbrev pub IsOld : Table → ℤ → Type 0
IsOld t (pos zero) = ⊥
IsOld t (pos (suc i)) = i < length t
IsOld t (negsuc i) = ⊥

-- that of one that is made later
abbrev pub IsNew : Table → ℤ → Type 0
IsNew t (pos n) = length t < n
IsNew t (negsuc n) = ⊥

no_cell : (k : CellKind) (o : ℤ) → has_cell k [] o ≡ true → ⊥
no_cell k (pos n) h = false≢true h
no_cell k (negsuc n) h = false≢true h

listed : (t : Table) (i : ℕ) (k : CellKind) (o : ℤ) → has_cell k (block_cells (or_ended (slice_get t i))) o ≡ true → i < length t
listed [] i k o h = absurd (no_cell k o h)
listed (x ∷ t) zero k o h = omega arith
listed (x ∷ t) (suc i) k o h = let r = listed t i k o h in omega (arith, r)

pub is_old : (k : CellKind) (t : Table) (b o : ℤ) → is_cell k t b o ≡ true → IsOld t b
unfolding block_at
is_old k t (pos zero) o h = no_cell k o h
is_old k t (pos (suc i)) o h = listed t i k o h
is_old k t (negsuc i) o h = no_cell k o h

pub not_both : (t : Table) (b : ℤ) → IsOld t b → IsNew t b → ⊥
not_both t (pos zero) h k = h
not_both t (pos (suc i)) h k = absurd (omega (arith, h, k))
not_both t (negsuc i) h k = h

pub before_count : (t u : Table) → length t ≤ length u → (b : ℤ) → IsOld t b → int_lt b (count u) ≡ true
before_count t u le (pos zero) h = absurd h
before_count t u le (pos (suc i)) h = lt-ltb (suc i) (suc (length u)) (omega (arith, le, h))
before_count t u le (negsuc i) h = absurd h

-- ---- tables

pub found_first : (t u : Table) (i : ℕ) → i < length t → slice_get (t ++ u) i ≡ slice_get t i
found_first [] u i h = absurd (omega (arith, h))
found_first (x ∷ t) u zero h = refl
found_first (x ∷ t) u (suc i) h = found_first t u i (omega (arith, h))

pub block_stays : (t u : Table) → ((i : ℕ) → i < length t → slice_get u i ≡ slice_get t i) → (b : ℤ) → IsOld t b → block_at u b ≡ block_at t b
unfolding block_at
block_stays t u same (pos zero) h = refl
block_stays t u same (pos (suc i)) h = ap or_ended (same i h)
block_stays t u same (negsuc i) h = refl

-- ---- cells

zero_when : (z : ℤ) → is_zero z ≡ true → z ≡ pos 0
zero_when (pos zero) h = refl
zero_when (pos (suc n)) h = absurd (false≢true h)
zero_when (negsuc n) h = absurd (false≢true h)

equal_when : (a b : ℤ) → is_equal a b ≡ true → a ≡ b
equal_when a b h = let e = zero_when (a -ℤ b) h in omega (arith, ints, e)

-- what a cell holds where one was stored
pub with_cell_by : (P : Value → Type 0) (b o b' o' : ℤ) (v : Value) (f : (block offset : ℤ) → Value) → (b ≡ b' → o ≡ o' → P v) → P (f b' o') → P (with_cell b o v f b' o')
with_cell_by P b o b' o' v f hit miss = by (is_equal b b') (is_equal o o') (equal_when b b') (equal_when o o')
  where
    by : (s t : Bool) → (s ≡ true → b ≡ b') → (t ≡ true → o ≡ o') → P (if s && t then v else f b' o')
    by true true p q = hit (p refl) (q refl)
    by true false p q = miss
    by false t p q = miss

-- ---- kinds

kind_same : (k l : CellKind) (r : Value) → same_cell k l ≡ true → has_kind k r ≡ has_kind l r
kind_same k l r h = ap (λ n. list_any (λ j. n == cell_place j) (cells_of r)) ((Decides-eqb (cell_place k) (cell_place l)).0 h)

pub lies_same : (rs : List Value) (k l : CellKind) (b o : ℤ) → same_cell k l ≡ true → lies_in rs k b o ≡ lies_in rs l b o
lies_same [] k l b o h = refl
lies_same (r ∷ rs) k l b o h = ap₂ (λ x y. (covers r b o && x) || y) (kind_same k l r h) (lies_same rs k l b o h)

there_by : (k l : CellKind) (x : Option CellKind) → is_some_cell l x ≡ true → same_cell l (unwrap_or x k) ≡ true
there_by k l None h = absurd (false≢true h)
there_by k l (Some j) h = h

-- the cell that a block has there is of the kind that was found
pub there : (k l : CellKind) (cells : List CellKind) (o : ℤ) → has_cell l cells o ≡ true → same_cell l (unwrap_or (cell_in cells o) k) ≡ true
there k l cells (pos n) h = there_by k l (slice_get cells n) h
there k l cells (negsuc n) h = absurd (false≢true h)
