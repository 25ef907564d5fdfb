-- Where worlds meet.
use Rattle.std.specs.Prelude.{ℕ, not, if◌then◌else◌, List, [], ◌∷◌, ◌++◌, Option, Some, None}
use Rattle.qed_terms.specs.Tree.{Tree, true_tree, equal, and_of, or_of}
use Rattle.qed_terms.specs.Order.{same}
use Rattle.qed_terms.specs.Fresh.{Used}
use Rattle.walk_steps.specs.Forms.{Slots}
use Rattle.walk_steps.specs.World.{World, world, pick, after_pick, after_picks, chosen}

-- The longest common front of two lists, and what follows it in each.
pub record Split : Type 0 where
  pub front : List Tree
  pub left : List Tree
  pub right : List Tree

abbrev pub in_front : Tree → Split → Split
in_front f s = record { front = f ∷ s.front; left = s.left; right = s.right }

abbrev pub split : List Tree → List Tree → Split
split [] gs = record { front = []; left = []; right = gs }
split (f ∷ fs) [] = record { front = []; left = f ∷ fs; right = [] }
split (f ∷ fs) (g ∷ gs) = if same f g then in_front f (split fs gs) else record { front = []; left = f ∷ fs; right = g ∷ gs }

-- a fresh name for each slot that differs as text
abbrev pub picks : (bases : List (List ℕ)) → Used → Slots → Slots → List (Option Tree)
picks [] c ts us = []
picks (b ∷ bases) c [] us = []
picks (b ∷ bases) c (t ∷ ts) [] = []
picks (b ∷ bases) c (t ∷ ts) (u ∷ us) = let p = pick c b (not (same t u)) in p ∷ picks bases (after_pick c b p) ts us

-- what the chosen names are on one side
abbrev pub link : Option Tree → Tree → List Tree
link None t = []
link (Some x) t = equal x t ∷ []

abbrev pub links : List (Option Tree) → Slots → List Tree
links [] ts = []
links (p ∷ ps) [] = []
links (p ∷ ps) (t ∷ ts) = link p t ++ links ps ts

-- `and` of these; one stands alone, none is `true`
abbrev pub all_of : List Tree → Tree
all_of [] = true_tree
all_of (f ∷ []) = f
all_of (f ∷ g ∷ fs) = and_of (f ∷ g ∷ fs)

module _ (bases : List (List ℕ)) where
  -- The common front of what is known, then that the rest of the one side holds, or that of the other.
  abbrev pub join : Used → World → World → World
  join c w v =
      let s = split w.known v.known in
      let ps = picks bases c w.slots v.slots in
      world (s.front ++ or_of (all_of (s.left ++ links ps w.slots) ∷ all_of (s.right ++ links ps v.slots) ∷ []) ∷ []) (chosen ps w.slots)

  abbrev pub used_by_join : Used → World → World → Used
  used_by_join c w v = after_picks bases (picks bases c w.slots v.slots) c

  -- several as one, in pairs from the left
  abbrev pub joined : Used → World → List World → World
  joined c w [] = w
  joined c w (v ∷ vs) = joined (used_by_join c w v) (join c w v) vs

  abbrev pub used_by_joined : Used → World → List World → Used
  used_by_joined c w [] = c
  used_by_joined c w (v ∷ vs) = used_by_joined (used_by_join c w v) (join c w v) vs

  abbrev pub meet : Used → List World → Option World
  meet c [] = None
  meet c (w ∷ ws) = Some (joined c w ws)

  abbrev pub used_by_meet : Used → List World → Used
  used_by_meet c [] = c
  used_by_meet c (w ∷ ws) = used_by_joined c w ws
