-- A test of the form of logic functions that call themselves (ACSL 2.6.3): `n <= c ? base : step`, where n is the last parameter and c a number. The base calls
-- the function nowhere, and the step only with `n - 1` in last place.
use Rattle.std.specs.Prelude.{ℕ, ◌==◌, Bool, true, false, ◌&&◌, List, [], ◌∷◌, length}
use Rattle.typed_prog.specs.declared.operators.Comparison.TheVariants as cmp
use Rattle.acsl_trees.specs.declared.heads.Head.TheVariants as h
use Rattle.acsl_trees.specs.Tree.{Tree, node, stop, more}
use Rattle.c_runs.specs.Recursion.{never_calls, goes_down}
use Rattle.acsl_encode.specs.Readings.{Named}

-- the name with this number
abbrev pub is_name_of : (name : ℕ) → Tree → Bool
is_name_of x (node (h.Name y) stop) = y == x
is_name_of x _ = false

abbrev pub is_number : Tree → Bool
is_number (node (h.Number z) stop) = true
is_number _ = false

-- it is compared with a number
abbrev pub is_bound : (name : ℕ) → Tree → Bool
is_bound x (node (h.Compare cmp.AtMost) (more t (more u stop))) = is_name_of x t && is_number u
is_bound x _ = false

abbrev pub is_recursion : (number name : ℕ) → Tree → Bool
is_recursion n x (node h.Choose (more test (more base (more step stop)))) = is_bound x test && (never_calls n base && goes_down n x step)
is_recursion n x _ = false

-- by the last of these parameters
abbrev pub descends : (number : ℕ) → List Named → Tree → Bool
descends n [] t = false
descends n (x ∷ xs) t = is_recursion n (length xs) t
