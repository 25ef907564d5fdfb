-- What the program holds in memory, as plain values.
use Rattle.std.specs.Prelude.{ℕ, List, [], ◌∷◌, ◌++◌, map, Option, Some, None}
use Rattle.qed_terms.specs.View.{formula_tree, term_tree}
use Rattle.walk_steps.specs.Step as s
use Rattle.walk_steps.specs.World.{World, world}
use Rattle.qed_terms.specs.Fresh.{Used}
use Rattle.walk_steps.specs.Join.{Split, joined, used_by_joined, meet, used_by_meet}
use Rattle.walk_steps.specs.Walk.{left_by}
use Rattle.walk_words.specs.declared.worlds.World as memory
use Rattle.walk_words.specs.declared.joins.Split as memory_split
use Rattle.walk_words.specs.declared.renewals.Change.{Change}
use Rattle.walk_words.specs.declared.renewals.Change.TheVariants as change
use Rattle.walk_words.specs.declared.ends.Exit.{Exit}
use Rattle.walk_words.specs.Changes.{any, ranged}

abbrev pub view_world : memory.World → World
view_world w = world (map formula_tree w.known.items) (map term_tree w.slots.items)

abbrev pub view_end : Option memory.World → Option World
view_end None = None
view_end (Some w) = Some (view_world w)

abbrev pub view_split : memory_split.Split → Split
view_split s = record { front = map formula_tree s.front.items; left = map formula_tree s.rests.left.items; right = map formula_tree s.rests.right.items }

abbrev pub view_change : Change → s.Change
view_change change.Keeps = s.keeps
view_change change.Any = any
view_change (change.Ranged low high) = ranged low high
view_change change.Raised = s.raised

-- the worlds at the exits out of so many blocks and one more
abbrev pub exits_at : List Exit → ℕ → List World
exits_at [] k = []
exits_at (e ∷ es) k = left_by e.level (view_world e.world) k ++ exits_at es k

-- a world, if there is one, joined with these in turn
module _ (bases : List (List ℕ)) where
  abbrev pub met_with : Used → Option World → List World → Option World
  met_with c None ws = meet bases c ws
  met_with c (Some w) ws = Some (joined bases c w ws)

  abbrev pub used_by_met_with : Used → Option World → List World → Used
  used_by_met_with c None ws = used_by_meet bases c ws
  used_by_met_with c (Some w) ws = used_by_joined bases c w ws
