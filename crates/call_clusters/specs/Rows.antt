-- Tables of tests on two numbers, row by row.
use Rattle.std.specs.Prelude.{◌≡◌, ℕ, zero, suc, ◌+◌, ◌<◌, ◌&&◌, if◌then◌else◌, Bool, false, List, [], ◌∷◌, length, slice_index_or, Option, Some, None}
use Rattle.call_clusters.specs.Callees.{is_among}

abbrev pub entry : List (List Bool) → ℕ → ℕ → Bool
entry rows f g = slice_index_or (slice_index_or rows f []) g false

-- these tests, for all numbers below n
pub record IsRow (n : ℕ) (q : ℕ → Bool) (row : List Bool) : Type 0 where
  pub count : length row ≡ n
  pub entries : (g : ℕ) → g < n → slice_index_or row g false ≡ q g

-- whether each number below n is among these
pub record IsMarked (n : ℕ) (xs : List ℕ) (row : List Bool) : Type 0 where
  pub count : length row ≡ n
  pub entries : (g : ℕ) → g < n → slice_index_or row g false ≡ is_among g xs

-- the first m rows of such a table
pub record AreRows (n m : ℕ) (q : ℕ → ℕ → Bool) (rows : List (List Bool)) : Type 0 where
  pub count : length rows ≡ m
  pub each : (f : ℕ) → f < m → IsRow n (q f) (slice_index_or rows f [])

-- the first number from this one on that passes, of so many
abbrev pub least_from : (q : ℕ → Bool) → (turns number : ℕ) → Option ℕ
least_from q zero g = None
least_from q (suc n) g = if q g then Some g else least_from q n (g + 1)

abbrev pub both_ways : List (List Bool) → ℕ → ℕ → Bool
both_ways rows f g = entry rows f g && entry rows g f

-- the number of a function's cluster: the first function with which it is in one
abbrev pub cluster_in : List (List Bool) → ℕ → Option ℕ
cluster_in rows f = least_from (both_ways rows f) (length rows) 0

-- those of so many functions from this one on
abbrev pub clusters_from : List (List Bool) → (turns function : ℕ) → List (Option ℕ)
clusters_from rows zero f = []
clusters_from rows (suc n) f = cluster_in rows f ∷ clusters_from rows n (f + 1)
