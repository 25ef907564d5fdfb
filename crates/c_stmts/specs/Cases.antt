-- The numbers of the labels of a `switch`, which differ (C11 6.8.4.2p3).
use Rattle.std.specs.Prelude.{ℕ, ℤ, Bool, List, [], ◌∷◌, ◌++◌, Ok, if◌then◌else◌}
use Rattle.std.specs.Ordering.{int_eq}
use Rattle.std.specs.List.{list_any}
use Rattle.c_answers.specs.Answers.{Answer, wrong}

abbrev pub is_among : ℤ → List ℤ → Bool
is_among z zs = list_any (int_eq z) zs

-- the numbers so far with one more; one that is there already is a fault
abbrev pub with_case : (line : ℕ) → List ℤ → ℤ → Answer (List ℤ)
with_case line zs z = if is_among z zs then wrong line else Ok (zs ++ z ∷ [])
