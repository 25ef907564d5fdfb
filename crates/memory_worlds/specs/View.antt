-- What the program holds in memory, as plain values.
use Rattle.std.specs.Prelude.{ℕ, if◌then◌else◌, List, [], ◌∷◌, ◌++◌, map, Option, Some, None}
use Rattle.std.specs.Str.{bytes_eq}
use Rattle.qed_terms.specs.declared.term.Formula.{Formula}
use Rattle.qed_terms.specs.Fresh.{Used, used_in}
use Rattle.qed_terms.specs.View.{formula_tree, term_tree}
use Rattle.walk_steps.specs.Join.{Split}
use Rattle.memory_steps.specs.State.{Base, base}
use Rattle.memory_steps.specs.Forms.{Mark, Slots, slots_of}
use Rattle.memory_steps.specs.World.{World, world}
use Rattle.memory_steps.specs.Join.{joined, used_by_joined, meet, used_by_meet}
use Rattle.memory_steps.specs.Walk.{left_by}
use Rattle.memory_worlds.specs.declared.names.Base as memory_base
use Rattle.memory_worlds.specs.declared.names.Names.{Names}
use Rattle.memory_worlds.specs.declared.worlds.Mark as memory_mark
use Rattle.memory_worlds.specs.declared.worlds.Slots as memory_slots
use Rattle.memory_worlds.specs.declared.worlds.World as memory
use Rattle.memory_worlds.specs.declared.joins.Rests.{Rests}
use Rattle.memory_worlds.specs.declared.ends.Exit.{Exit}

-- ---- names

abbrev pub view_base : memory_base.Base → Base
view_base b = base b.name b.is_memory

-- Points that were passed are counted apart: they are those of the base without text.
unfoldable pub used_by : Names → Used
used_by n x = if bytes_eq x [] then n.marks else used_in n.fresh x

-- ---- worlds

abbrev pub view_mark : memory_mark.Mark → Mark
view_mark m = record { number = m.number; table = term_tree m.table }

abbrev pub view_slots : memory_slots.Slots → Slots
view_slots s = slots_of (map term_tree s.terms.items) (term_tree s.table) (map view_mark s.trail.items)

abbrev pub view_world : memory.World → World
view_world w = world (map formula_tree w.known.items) (view_slots w.slots)

abbrev pub view_end : Option memory.World → Option World
view_end None = None
view_end (Some w) = Some (view_world w)

-- the front of two lists, and what follows it in each
abbrev pub view_split : List Formula → Rests → Split
view_split front rests = record { front = map formula_tree front; left = map formula_tree rests.left.items; right = map formula_tree rests.right.items }

-- the worlds at the exits out of so many blocks and one more
abbrev pub exits_at : List Exit → ℕ → List World
exits_at [] k = []
exits_at (e ∷ es) k = left_by e.level (view_world e.world) k ++ exits_at es k

-- a world, if there is one, joined with these in turn
module _ (bases : List Base) where
  abbrev pub met_with : Used → Option World → List World → Option World
  met_with c None ws = meet bases c ws
  met_with c (Some w) ws = Some (joined bases c w ws)

  abbrev pub used_by_met_with : Used → Option World → List World → Used
  used_by_met_with c None ws = used_by_meet bases c ws
  used_by_met_with c (Some w) ws = used_by_joined bases c w ws
