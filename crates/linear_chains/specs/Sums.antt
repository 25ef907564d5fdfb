-- What the search for short sums keeps: the form that two forms lack, and the least bound of each form.
use Rattle.std.specs.Prelude.{◌≡◌, ◌≢◌, ◌⊎◌, ℕ, ◌<◌, ◌≤◌, ◌==◌, Bool, if◌then◌else◌, ℤ, pos, neg_ℤ, ◌+ℤ◌, ◌≤ℤ◌, ◌<ℤ◌, List, [], ◌∷◌, ◌++◌, length, slice_get, Option, Some, None}
use Rattle.std.specs.Ordering.{int_eq}
use Rattle.linear_chains.specs.Links.{Form, Link, times_at, IsAbove, IsOrdered}
use Rattle.linear_chains.specs.Chains.{AllDiffer, times_in, bounds_of}

-- ---- the form that two forms lack to nothing

pub record IsOpposite (left right form : Form) : Type 0 where
  pub ordered : IsOrdered form
  pub nothing : (c : ℕ) → (times_at left c +ℤ times_at right c) +ℤ times_at form c ≡ pos 0

-- all classes are below this one
abbrev pub IsBelow : Form → ℕ → Type 0
IsBelow [] c = Unit {0}
IsBelow (p ∷ f) c = (p.0 < c) × IsBelow f c

-- no class is below this one
abbrev pub IsFrom : ℕ → Form → Type 0
IsFrom c [] = Unit {0}
IsFrom c (p ∷ f) = c ≤ p.0

-- all classes of the one are below those of the other
abbrev pub Precedes : Form → Form → Type 0
Precedes f [] = Unit {0}
Precedes f (p ∷ g) = IsBelow f (p.0)

abbrev pub Begins : ℕ → Form → Type 0
Begins c [] = ⊥
Begins c (p ∷ f) = p.0 ≡ c

-- the least class of two forms
pub record IsFirst (f g : Form) (c : ℕ) : Type 0 where
  pub left : IsFrom c f
  pub right : IsFrom c g
  pub begins : Begins c f ⊎ Begins c g

-- this coefficient of a class is taken from the front of f, and g is left
pub record Takes (f : Form) (c : ℕ) (z : ℤ) (g : Form) : Type 0 where
  pub ordered : IsOrdered g
  pub above : IsAbove c g
  pub same : (d : ℕ) → times_at f d ≡ (if c == d then z else pos 0) +ℤ times_at g d
  pub fewer : Begins c f → length g < length f
  pub no_more : length g ≤ length f

-- one part more, but none of coefficient 0
abbrev pub with_part : Form → ℕ → ℤ → Form
with_part f c z = if int_eq z (pos 0) then f else f ++ (c, z) ∷ []

-- what was added so far, where f and g are still to be added
pub record Adding (left right done f g : Form) : Type 0 where
  pub ordered : IsOrdered done
  pub left_ordered : IsOrdered f
  pub right_ordered : IsOrdered g
  pub before_left : Precedes done f
  pub before_right : Precedes done g
  pub sum : (c : ℕ) → (times_at left c +ℤ times_at right c) +ℤ times_at done c ≡ times_at f c +ℤ times_at g c

-- ---- the least bound of each form

-- each place in a table is a link's
abbrev pub HasPlaces : List Link → (Form → Option ℕ) → Type 0
HasPlaces links look = (f : Form) (k : ℕ) → look f ≡ Some k → k < length links

-- the table has a link of this one's form whose bound is no larger
abbrev pub Has : List Link → (Form → Option ℕ) → Link → Type 0
Has links look l = (k : ℕ) × (m : Link) × (look (l.form) ≡ Some k) × (slice_get links k ≡ Some m) × (m.bound ≤ℤ l.bound)

-- each link of this one's form in the table has a larger bound
abbrev pub Lacks : List Link → (Form → Option ℕ) → Link → Type 0
Lacks links look l = (k : ℕ) (m : Link) → look (l.form) ≡ Some k → slice_get links k ≡ Some m → l.bound ≤ℤ m.bound

-- a table gives for each form of the first n links a link of that form whose bound is the least
pub record IsLeast (links : List Link) (n : ℕ) (look : Form → Option ℕ) : Type 0 where
  pub found : (f : Form) (k : ℕ) → look f ≡ Some k → (l : Link) × (slice_get links k ≡ Some l) × (l.form ≡ f)
  pub least : (j : ℕ) (l : Link) → j < n → slice_get links j ≡ Some l → Has links look l

-- the class that a form begins with, its least one
abbrev pub first_of : Form → Option ℕ
first_of [] = None
first_of (p ∷ f) = Some (p.0)

abbrev pub BeginApart : List Link → ℕ → ℕ → Type 0
BeginApart links i j = (a b : Link) → slice_get links i ≡ Some a → slice_get links j ≡ Some b → first_of (a.form) ≡ first_of (b.form) → ⊥

-- These two links, where they begin with one class, have no third one in the table that makes a short sum. Of three forms that leave nothing two begin
-- with one class: the least of all would be left of a form that alone has it.
abbrev pub NoThird : List Link → (Form → Option ℕ) → ℕ → ℕ → Type 0
NoThird links look i j =
    (k : ℕ) (a b l : Link) → slice_get links i ≡ Some a → slice_get links j ≡ Some b → slice_get links k ≡ Some l → first_of (a.form) ≡ first_of (b.form) → look (l.form) ≡ Some k → AllDiffer (a ∷ b ∷ l ∷ []) → ((c : ℕ) → times_in (a ∷ b ∷ l ∷ []) c ≡ pos 0) → bounds_of (a ∷ b ∷ l ∷ []) <ℤ pos 0 → ⊥

-- each two links have no third one
abbrev pub NoSumOfThree : List Link → Type 0
NoSumOfThree links = (look : Form → Option ℕ) × IsLeast links (length links) look × ((i j : ℕ) → i < j → j < length links → NoThird links look i j)

-- three different links whose bounds add up to below 0, or else not
abbrev pub ThreeMake : Link → Link → Link → Option ℤ → Type 0
ThreeMake a b l None = AllDiffer (a ∷ b ∷ l ∷ []) → bounds_of (a ∷ b ∷ l ∷ []) <ℤ pos 0 → ⊥
ThreeMake a b l (Some total) = AllDiffer (a ∷ b ∷ l ∷ []) × (total ≡ bounds_of (a ∷ b ∷ l ∷ [])) × (total <ℤ pos 0)
