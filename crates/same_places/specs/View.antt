-- The plain values of the code's rows and keys.
use Rattle.std.specs.Prelude.{ℕ, Bool, ℤ, List, Option}
use Rattle.std.specs.Cmp.Lexicographic.{pointwise}
use Rattle.std.specs.Map.{lookup}
use Rattle.std.specs.declared.vec.Vec.{Vec}
use Rattle.same_places.specs.declared.rows.ClassRow.{ClassRow}
use Rattle.same_places.specs.Same.{Part, Row}
use Rattle.same_places.specs.Passing.{same_part}

abbrev pub row_of : ClassRow → Row
row_of r = record { place = r.place; label = r.label; parts = r.parts.items }

abbrev pub same_key : List Part → List Part → Bool
same_key ps qs = pointwise same_part ps qs

-- the place that a table has at a key
abbrev pub place_in : {Z : Type 0} → List (Vec (ℕ × ℤ) Z × ℕ) → List Part → Option ℕ
place_in entries key = lookup (λ v. same_key key (v.items)) entries
