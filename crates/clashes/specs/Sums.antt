-- Sums of coefficients, class by class.
use Rattle.std.specs.Prelude.{◌≡◌, ℕ, ◌==◌, nat_eq, if◌then◌else◌, Bool, true, ℤ, pos, ◌+ℤ◌, ◌*ℤ◌, List, [], ◌∷◌, ◌++◌, map, Option, Some, None}
use Rattle.std.specs.Map.{lookup}
use Rattle.same_places.specs.Same.{Part}
use Rattle.term_forms.specs.declared.forms.Form.{Form}
use Rattle.term_forms.specs.Forms.{signed_number}
use Rattle.clashes.specs.declared.totals.Total.{Total}

-- a part as it is, or turned
abbrev pub signed_place : (turned : Bool) → Part → Part
signed_place turned p = (p.0, signed_number turned (p.1))

-- what a part gives to the sum of a class
abbrev pub share : (class_of : ℕ → ℕ) → ℕ → Part → ℤ
share class_of c p = if class_of (p.0) == c then p.1 else pos 0

-- the coefficients of the parts whose places have this class, added up
abbrev pub class_sum : (class_of : ℕ → ℕ) → ℕ → List Part → ℤ
class_sum class_of c [] = pos 0
class_sum class_of c (p ∷ ps) = share class_of c p +ℤ class_sum class_of c ps

-- nothing is left of the parts where places of one class are taken as one
abbrev pub EachSumVanishes : (class_of : ℕ → ℕ) → (all ps : List Part) → Type 0
EachSumVanishes class_of all [] = Unit {0}
EachSumVanishes class_of all (p ∷ ps) = (class_sum class_of (class_of (p.0)) all ≡ pos 0) × EachSumVanishes class_of all ps

-- the parts of a form less another
abbrev pub parts_between : (first second : List Part) → List Part
parts_between first second = first ++ map (signed_place true) second

-- they have one constant, and nothing is left of the one less the other
pub record Cancel (class_of : ℕ → ℕ) (f g : Form) : Type 0 where
  pub constants : f.constant ≡ g.constant
  pub vanish : EachSumVanishes class_of (parts_between (f.parts.items) (g.parts.items)) (parts_between (f.parts.items) (g.parts.items))

-- ---- totals, and tables of them

-- 2^128 to a turn
abbrev pub total_of : Total → ℤ
total_of t = t.low +ℤ t.turns *ℤ pos 340282366920938463463374607431768211456

abbrev pub sum_of : Option Total → ℤ
sum_of None = pos 0
sum_of (Some t) = total_of t

-- the sum that a table has for a class
unfoldable pub sum_in : List (ℕ × Total) → ℕ → ℤ
sum_in entries class = sum_of (lookup (λ c. nat_eq class c) entries)
