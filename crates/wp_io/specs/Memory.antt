-- What files and sinks in memory are made of.
use Rattle.std.specs.Prelude.{ℕ, Bool, List, [], slice_get, drop, position, nat_eq, Option, option_map, unwrap_or}
use Rattle.std.specs.List.{list_any}
use Rattle.std.specs.Str.{bytes_eq}

-- whether the call with this number is one of those that fail
abbrev pub is_failing : List ℕ → ℕ → Bool
is_failing fail number = list_any (λ failing. nat_eq failing number) fail

-- the place of the first of the names that is this one
abbrev pub place_of : List (List ℕ) → List ℕ → Option ℕ
place_of names name = position (λ held. bytes_eq held name) names

-- what is left of the open text from a place on
abbrev pub rest_of : List (List ℕ) → Option ℕ → ℕ → Option (List ℕ)
rest_of texts current at = option_map (λ number. drop at (unwrap_or (slice_get texts number) [])) current
