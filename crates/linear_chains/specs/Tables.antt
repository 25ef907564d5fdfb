-- What tables of sides say, and links at places.
use Rattle.std.specs.Prelude.{ℕ, ℤ, pos, List, [], map, slice_index_or, Option, Some, None}
use Rattle.std.specs.Map.{lookup}
use Rattle.std.specs.declared.vec.Vec.{Vec}
use Rattle.linear_chains.specs.Links.{Form, Step}
use Rattle.linear_chains.specs.Chains.{Walk}
use Rattle.linear_chains.specs.View.{same_form}

-- the place of a side
abbrev pub place_in : {Z : Type 0} → List (Vec (ℕ × ℤ) Z × ℕ) → Form → Option ℕ
place_in entries side = lookup (λ v. same_form side (v.items)) entries

abbrev pub number_at : List ℤ → Option ℕ → ℤ
number_at numbers None = pos 0
number_at numbers (Some k) = slice_index_or numbers k (pos 0)

-- the number of a side
abbrev pub number_in : {Z : Type 0} → List (Vec (ℕ × ℤ) Z × ℕ) → List ℤ → Form → ℤ
number_in entries numbers side = number_at numbers (place_in entries side)

abbrev pub no_step : Step
no_step = record { from = []; to = []; bound = pos 0 }

-- the side that a step begins with
abbrev pub from_at : List Step → ℕ → Form
from_at steps k = (slice_index_or steps k no_step).from

-- a walk, of which the sides are those at its places
abbrev pub WalkAt : List Step → Form → List ℕ → Form → ℤ → Type 0
WalkAt steps u ks v z = Walk steps u ks (map (from_at steps) ks) v z
