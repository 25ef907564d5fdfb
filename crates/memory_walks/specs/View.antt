-- What the program holds in memory, as plain values.
use Rattle.std.specs.Prelude.{ℕ, suc, List, [], ◌∷◌, map}
use Rattle.qed_terms.specs.View.{formula_tree}
use Rattle.walk_steps.specs.Forms as spec
use Rattle.walk_steps.specs.Walk.{Goal}
use Rattle.memory_worlds.specs.View.{exits_at, used_by, view_slots, view_world}
use Rattle.memory_walks.specs.declared.sinks.Place.{Place}
use Rattle.memory_walks.specs.declared.sinks.Claimed.{Claimed}
use Rattle.memory_walks.specs.declared.states.State.{State}
use Rattle.memory_walks.specs.Walks.{Held}

abbrev pub view_place : Place → spec.Place
view_place p = record { kind = p.kind; line = p.line }

abbrev pub view_state : State → Held
view_state s = record { olds = map view_slots s.olds.items; used = used_by s.names; world = view_world s.world; left = exits_at s.left.items }

-- goals by their place among others
abbrev pub goal_in : ℕ → Claimed → Goal
goal_in n c = record { number = n; place = view_place c.place; known = map formula_tree c.known; claim = formula_tree c.claim }

abbrev pub goals_from : ℕ → List Claimed → List Goal
goals_from n [] = []
goals_from n (c ∷ cs) = goal_in n c ∷ goals_from (suc n) cs
