-- Forms over the classes of places: places of one class are one atom, and classes that count as numbers are put in.
use Rattle.std.specs.Prelude.{◌≡◌, ◌≢◌, ℕ, ◌<◌, ◌≤◌, ◌==◌, ℤ, pos, neg_ℤ, ◌+ℤ◌, ◌*ℤ◌, ◌≤ℤ◌, if◌then◌else◌, List, [], ◌∷◌, map, Option, Some, None}
use Rattle.std.specs.Map.{lookup}
use Rattle.std.specs.Prelude.{nat_eq}
use Rattle.qed_terms.specs.Tree.{Tree}
use Rattle.linear_chains.specs.Links.{Form, Link, IsOrdered, times_at, turned}
use Rattle.linear_chains.specs.Sums.{IsBelow}
use Rattle.same_places.specs.Same.{Part}
use Rattle.same_terms.specs.Written.{number_in}
use Rattle.branch_links.specs.BranchLinks.{IsWithin}

-- ---- numbers of classes

-- the number that a table has for a class
abbrev pub number_for : List (ℕ × ℤ) → ℕ → Option ℤ
number_for entries class = lookup (λ c. nat_eq class c) entries

-- a class of the first places counts as the least number that stands at one of them
pub record AreLeast (count : ℕ) (tree : ℕ → Tree) (class : ℕ → ℕ) (look : ℕ → Option ℤ) : Type 0 where
  pub found : (c : ℕ) (z : ℤ) → look c ≡ Some z → (i : ℕ) × (i < count) × (class i ≡ c) × (number_in (tree i) ≡ Some z)
  pub least : (i : ℕ) (z : ℤ) → i < count → number_in (tree i) ≡ Some z → (y : ℤ) × (look (class i) ≡ Some y) × (y ≤ℤ z)

-- ---- forms

-- what a part adds, where its class is a number, and where it isn't
abbrev pub number_part : Option ℤ → ℤ → ℤ
number_part None z = pos 0
number_part (Some y) z = z *ℤ y

abbrev pub atom_part : Option ℤ → ℤ → ℤ
atom_part None z = z
atom_part (Some y) z = pos 0

abbrev pub numbers_of : (class : ℕ → ℕ) → (look : ℕ → Option ℤ) → List Part → ℤ
numbers_of class look [] = pos 0
numbers_of class look (p ∷ ps) = number_part (look (class (p.0))) (p.1) +ℤ numbers_of class look ps

-- the coefficient of class c
abbrev pub part_at : (class : ℕ → ℕ) → (look : ℕ → Option ℤ) → Part → ℕ → ℤ
part_at class look p c = if class (p.0) == c then atom_part (look (class (p.0))) (p.1) else pos 0

abbrev pub times_of : (class : ℕ → ℕ) → (look : ℕ → Option ℤ) → List Part → ℕ → ℤ
times_of class look [] c = pos 0
times_of class look (p ∷ ps) c = part_at class look p c +ℤ times_of class look ps c

-- the bound and all coefficients are at most 2^96 in size
pub record AreWithin (class : ℕ → ℕ) (look : ℕ → Option ℤ) (ps : List Part) (constant : ℤ) : Type 0 where
  pub bound : IsWithin (neg_ℤ (constant +ℤ numbers_of class look ps))
  pub times : (c : ℕ) → IsWithin (times_of class look ps c)

-- the link that says of parts and a constant that they are at most 0
pub record IsClassLink (class : ℕ → ℕ) (look : ℕ → Option ℤ) (ps : List Part) (constant : ℤ) (l : Link) : Type 0 where
  pub bound : l.bound ≡ neg_ℤ (constant +ℤ numbers_of class look ps)
  pub ordered : IsOrdered (l.form)
  pub same : (c : ℕ) → times_at (l.form) c ≡ times_of class look ps c
  pub within : AreWithin class look ps constant

-- ---- on the way

-- a table has a number for a class that is no larger, or none or a larger one
abbrev pub HasLess : (ℕ → Option ℤ) → ℕ → ℤ → Type 0
HasLess look c z = (y : ℤ) × (look c ≡ Some y) × (y ≤ℤ z)

abbrev pub LacksLess : (ℕ → Option ℤ) → ℕ → ℤ → Type 0
LacksLess look c z = (y : ℤ) → look c ≡ Some y → z ≤ℤ y

-- from a class on, this is the first that may have a coefficient
abbrev pub IsNext : (times : ℕ → ℤ) → (from : ℕ) → Option ℕ → Type 0
IsNext times from None = (c : ℕ) → from ≤ c → times c ≡ pos 0
IsNext times from (Some d) = (from ≤ d) × ((c : ℕ) → from ≤ c → c < d → times c ≡ pos 0)

-- a form of all classes below this one
pub record IsFormBelow (times : ℕ → ℤ) (form : Form) (from : ℕ) : Type 0 where
  pub ordered : IsOrdered form
  pub below : IsBelow form from
  pub same : (c : ℕ) → c < from → times_at form c ≡ times c
  pub within : (c : ℕ) → c < from → IsWithin (times c)

-- a form of all classes, within the limit
pub record IsFormOf (times : ℕ → ℤ) (form : Form) : Type 0 where
  pub ordered : IsOrdered form
  pub same : (c : ℕ) → times_at form c ≡ times c
  pub within : (c : ℕ) → IsWithin (times c)

-- no other class than this has a coefficient
abbrev pub IsAtomOf : (times : ℕ → ℤ) → Option ℕ → Type 0
IsAtomOf times None = (c : ℕ) → times c ≡ pos 0
IsAtomOf times (Some d) = (c : ℕ) → c ≢ d → times c ≡ pos 0

-- the link of the opposite form
abbrev pub opposite_link : Link → Link
opposite_link l = record { form = map turned (l.form); bound = neg_ℤ (l.bound) }
