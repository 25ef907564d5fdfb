-- Marks of places: which trees stand in those at some roots, outside of quantifiers.
use Rattle.std.specs.Prelude.{◌≡◌, ◌==◌, ◌||◌, ◌&&◌, ◌≤◌, ◌<◌, ◌↔◌, if◌then◌else◌, Bool, true, false, ℕ, List, [], ◌∷◌, length, slice_get, slice_index_or, Option, Some, None}
use Rattle.qed_terms.specs.Tree.{Tree}
use Rattle.same_terms.specs.SameTerms.{is_binder, StandsIn}
use Rattle.tree_places.specs.Tables.{Node, tree_at}

abbrev pub mark_at : List Bool → ℕ → Bool
mark_at marks k = slice_index_or marks k false

abbrev pub is_among : ℕ → List ℕ → Bool
is_among k [] = false
is_among k (p ∷ ps) = (k == p) || is_among k ps

-- the kids of a node that stand outside of quantifiers where it does
abbrev pub open_kids : Option Node → List ℕ
open_kids None = []
open_kids (Some n) = if is_binder (n.head) then [] else n.kids

abbrev pub kids_at : List Node → ℕ → List ℕ
kids_at ns i = open_kids (slice_get ns i)

-- marked where they were, and at these places
pub record AlsoMarked (places : List ℕ) (old new : List Bool) : Type 0 where
  pub all : length new ≡ length old
  pub each : (k : ℕ) → mark_at new k ≡ (mark_at old k || is_among k places)

-- marked where they were, and at the kids of this place where it is marked
pub record KidsMarked (ns : List Node) (place : ℕ) (old new : List Bool) : Type 0 where
  pub all : length new ≡ length old
  pub each : (k : ℕ) → mark_at new k ≡ (mark_at old k || (mark_at old place && is_among k (kids_at ns place)))

-- a tree stands in one of those at the roots
abbrev pub Under : List Node → List ℕ → Tree → Type 0
Under ns roots t = (r : ℕ) × (is_among r roots ≡ true) × StandsIn t (tree_at ns r)

-- Where marks stand on the way down to a place: what is marked is under the roots, the roots are marked, and with each place from there on its kids.
pub record GoneDown (ns : List Node) (roots : List ℕ) (from : ℕ) (marks : List Bool) : Type 0 where
  pub all : length marks ≡ length ns
  pub under : (k : ℕ) → mark_at marks k ≡ true → Under ns roots (tree_at ns k)
  pub closed : (i k : ℕ) → from ≤ i → mark_at marks i ≡ true → is_among k (kids_at ns i) ≡ true → mark_at marks k ≡ true
  pub rooted : (k : ℕ) → is_among k roots ≡ true → mark_at marks k ≡ true

-- places are marked exactly where their trees are under the roots
pub record AreMarks (ns : List Node) (roots : List ℕ) (marks : List Bool) : Type 0 where
  pub all : length marks ≡ length ns
  pub each : (k : ℕ) → k < length ns → (mark_at marks k ≡ true) ↔ Under ns roots (tree_at ns k)
