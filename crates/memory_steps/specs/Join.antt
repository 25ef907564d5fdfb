-- Where worlds meet.
use Rattle.std.specs.Prelude.{nat_eq, Bool, true, false, not, ◌&&◌, ◌||◌, if◌then◌else◌, List, [], ◌∷◌, ◌++◌, Option, Some, None}
use Rattle.qed_terms.specs.Tree.{Tree, equal, or_of}
use Rattle.qed_terms.specs.Order.{same}
use Rattle.qed_terms.specs.Fresh.{Used}
use Rattle.walk_steps.specs.Join.{split, all_of}
use Rattle.memory_steps.specs.State.{Base}
use Rattle.memory_steps.specs.Forms.{Mark, Slots, slots_of}
use Rattle.memory_steps.specs.World.{World, world, pick, after_pick, after_picks, chosen, is_same, count_base, count_of, grow_of}

-- a fresh name for each slot that differs as text
abbrev pub picks : (bases : List Base) → Used → List Tree → List Tree → List (Option Tree)
picks [] c ts us = []
picks (b ∷ bases) c [] us = []
picks (b ∷ bases) c (t ∷ ts) [] = []
picks (b ∷ bases) c (t ∷ ts) (u ∷ us) = let p = pick c b (not (same t u)) in p ∷ picks bases (after_pick c b p) ts us

-- what the chosen names are on one side
abbrev pub link : Base → Option Tree → Tree → List Tree
link b None t = []
link b (Some x) t = is_same b.is_memory x t ∷ []

abbrev pub links : List Base → List (Option Tree) → List Tree → List Tree
links bases [] ts = []
links [] (p ∷ ps) ts = []
links (b ∷ bases) (p ∷ ps) [] = []
links (b ∷ bases) (p ∷ ps) (t ∷ ts) = link b p t ++ links bases ps ts

-- ---- the table

abbrev pub same_mark : Mark → Mark → Bool
same_mark p q = nat_eq p.number q.number && same p.table q.table

-- the points that both sides have passed: the longest common front
abbrev pub common : List Mark → List Mark → List Mark
common [] qs = []
common (p ∷ ps) [] = []
common (p ∷ ps) (q ∷ qs) = if same_mark p q then p ∷ common ps qs else []

-- the table of the last point, or this one
abbrev pub last_table : Tree → List Mark → Tree
last_table t [] = t
last_table t (p ∷ ps) = last_table p.table ps

abbrev pub is_some_mark : List Mark → Bool
is_some_mark [] = false
is_some_mark (p ∷ ps) = true

-- a fresh number of blocks, where the tables differ as text
abbrev pub count_pick : Used → Tree → Tree → Option Tree
count_pick c t u = pick c count_base (not (same t u))

-- the table of the last point that both have passed, grown to that number
abbrev pub table_with : Option Tree → (own last : Tree) → Tree
table_with None own last = own
table_with (Some x) own last = grow_of last x

-- what the number is on one side
abbrev pub count_link : Option Tree → Tree → List Tree
count_link None t = []
count_link (Some x) t = equal x (count_of t) ∷ []

module _ (bases : List Base) where
  abbrev pub names_at : Used → World → World → List (Option Tree)
  names_at c w v = picks bases c w.slots.terms v.slots.terms

  abbrev pub used_by_names : Used → World → World → Used
  used_by_names c w v = after_picks bases (names_at c w v) c

  abbrev pub count_at : Used → World → World → Option Tree
  count_at c w v = count_pick (used_by_names c w v) w.slots.table v.slots.table

  -- what the fresh names are on one side
  abbrev pub side_links : List (Option Tree) → Option Tree → Slots → List Tree
  side_links ps p ss = links bases ps ss.terms ++ count_link p ss.table

  -- The common front of what is known, then that the rest of the one side holds, or that of the other.
  abbrev pub join : Used → World → World → World
  join c w v =
      let s = split w.known v.known in
      let ps = names_at c w v in
      let p = count_at c w v in
      let trail = common w.slots.trail v.slots.trail in
      world
      (s.front ++ or_of (all_of (s.left ++ side_links ps p w.slots) ∷ all_of (s.right ++ side_links ps p v.slots) ∷ []) ∷ [])
      (slots_of (chosen ps w.slots.terms) (table_with p w.slots.table (last_table w.slots.table trail)) trail)

  abbrev pub used_by_join : Used → World → World → Used
  used_by_join c w v = after_pick (used_by_names c w v) count_base (count_at c w v)

  -- whether one table is both, or both have passed a common point
  abbrev pub can_join : World → World → Bool
  can_join w v = same w.slots.table v.slots.table || is_some_mark (common w.slots.trail v.slots.trail)

  -- several as one, in pairs from the left
  abbrev pub joined : Used → World → List World → World
  joined c w [] = w
  joined c w (v ∷ vs) = joined (used_by_join c w v) (join c w v) vs

  abbrev pub used_by_joined : Used → World → List World → Used
  used_by_joined c w [] = c
  used_by_joined c w (v ∷ vs) = used_by_joined (used_by_join c w v) (join c w v) vs

  abbrev pub can_all_join : Used → World → List World → Bool
  can_all_join c w [] = true
  can_all_join c w (v ∷ vs) = can_join w v && can_all_join (used_by_join c w v) (join c w v) vs

  abbrev pub meet : Used → List World → Option World
  meet c [] = None
  meet c (w ∷ ws) = Some (joined c w ws)

  abbrev pub used_by_meet : Used → List World → Used
  used_by_meet c [] = c
  used_by_meet c (w ∷ ws) = used_by_joined c w ws

  abbrev pub can_meet : Used → List World → Bool
  can_meet c [] = true
  can_meet c (w ∷ ws) = can_all_join c w ws
