-- Walks along links, negative chains and short sums: what can't be where every link holds.
use Rattle.std.specs.Prelude.{◌≡◌, ◌≢◌, ◌⊎◌, ℕ, ◌≤◌, ℤ, pos, ◌+ℤ◌, ◌≤ℤ◌, ◌<ℤ◌, List, [], ◌∷◌, map, length, slice_get, Option, Some, None}
use Rattle.linear_chains.specs.Links.{Form, Link, Step, step_of, times_at, IsOrdered}

-- this one isn't among these
abbrev pub NotAmong : {X : Type 0} → X → List X → Type 0
NotAmong x [] = Unit {0}
NotAmong x (y ∷ ys) = (x ≢ y) × NotAmong x ys

-- each differs from all behind it
abbrev pub AllDiffer : {X : Type 0} → List X → Type 0
AllDiffer [] = Unit {0}
AllDiffer (x ∷ xs) = NotAmong x xs × AllDiffer xs

-- ---- chains

-- Steps one after the other, by their places: each begins with the side that the one before it ends with. `us` are the sides that they begin
-- with, and z is the sum of their bounds.
pub data Walk (steps : List Step) : Form → List ℕ → List Form → Form → ℤ → Type 0 where
  stays : {u : Form} → Walk steps u [] [] u (pos 0)
  goes : {u v : Form} {ks : List ℕ} {us : List Form} {z y : ℤ} → (k : ℕ) → (s : Step) → slice_get steps k ≡ Some s → u ≡ s.from → Walk steps (s.to) ks us v z → y ≡ s.bound +ℤ z → Walk steps u (k ∷ ks) (u ∷ us) v y

-- back to where it began, with no side twice and a sum of bounds below 0
pub record IsChain (steps : List Step) (ks : List ℕ) (total : ℤ) : Type 0 where
  pub start : Form
  pub sides : List Form
  pub walk : Walk steps start ks sides start total
  pub once : AllDiffer sides
  pub negative : total <ℤ pos 0

-- ---- short sums

-- the links at these places
abbrev pub Picks : List Link → List ℕ → List Link → Type 0
Picks links [] [] = Unit {0}
Picks links [] (l ∷ ls) = ⊥
Picks links (k ∷ ks) [] = ⊥
Picks links (k ∷ ks) (l ∷ ls) = (slice_get links k ≡ Some l) × Picks links ks ls

abbrev pub times_in : List Link → ℕ → ℤ
times_in [] c = pos 0
times_in (l ∷ ls) c = times_at (l.form) c +ℤ times_in ls c

abbrev pub bounds_of : List Link → ℤ
bounds_of [] = pos 0
bounds_of (l ∷ ls) = l.bound +ℤ bounds_of ls

-- up to three different links, whose forms add up to nothing and whose bounds add up to below 0
pub record IsShortSum (links : List Link) (ks : List ℕ) (total : ℤ) : Type 0 where
  pub picked : List Link
  pub picks : Picks links ks picked
  pub few : length ks ≤ 3
  pub differ : AllDiffer picked
  pub nothing : (c : ℕ) → times_in picked c ≡ pos 0
  pub sum : total ≡ bounds_of picked
  pub negative : total <ℤ pos 0

-- ---- both

abbrev pub IsRefuted : List Link → List ℕ → ℤ → Type 0
IsRefuted links ks total = IsChain (map step_of links) ks total ⊎ IsShortSum links ks total

abbrev pub AreOrdered : List Link → Type 0
AreOrdered links = (k : ℕ) (l : Link) → slice_get links k ≡ Some l → IsOrdered (l.form)

-- ---- numbers for the sides

-- under these each step holds
abbrev pub Meets : List Step → (Form → ℤ) → Type 0
Meets steps d = (k : ℕ) (s : Step) → slice_get steps k ≡ Some s → d (s.from) ≤ℤ (d (s.to) +ℤ s.bound)
