-- Counts of base names in a list.
use Rattle.std.specs.Prelude.{ℕ, suc, if◌then◌else◌, List, [], ◌∷◌, Option, Some, None}
use Rattle.std.specs.Option.{option_map}
use Rattle.std.specs.Str.{bytes_eq}
use Rattle.qed_terms.specs.declared.fresh.Count.{Count}

-- a base name and how many fresh names it has been given
abbrev pub row_of : Count → List ℕ × ℕ
row_of c = (c.base, c.given)

-- where the count of a base stands
abbrev pub place_of : List (List ℕ × ℕ) → List ℕ → Option ℕ
place_of [] base = None
place_of (row ∷ rows) base = if bytes_eq base row.0 then Some 0 else option_map suc (place_of rows base)
