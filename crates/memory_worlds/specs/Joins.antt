-- Slots of two worlds as one.
use Rattle.std.specs.Prelude.{◌≡◌, List, ◌++◌, map}
use Rattle.qed_terms.specs.Fresh.{Used}
use Rattle.qed_terms.specs.View.{formula_tree}
use Rattle.memory_steps.specs.State.{Base}
use Rattle.memory_steps.specs.Forms.{Slots, slots_of}
use Rattle.memory_steps.specs.World.{after_pick, after_picks, chosen, count_base}
use Rattle.memory_steps.specs.Join.{picks, count_pick, side_links, table_with, last_table, common}
use Rattle.memory_worlds.specs.declared.joins.Rests.{Rests}

-- The slots s and t become v, and what the fresh names are is added to what holds on each side.
pub record SlotsJoin (bases : List Base) (c : Used) (s t v : Slots) (old new : Rests) (d : Used) : Type 0 where
  pub slots :
      let ps = picks bases c s.terms t.terms in
      let p = count_pick (after_picks bases ps c) s.table t.table in
      let trail = common s.trail t.trail in
      v ≡ slots_of (chosen ps s.terms) (table_with p s.table (last_table s.table trail)) trail
  pub left :
      let ps = picks bases c s.terms t.terms in
      map formula_tree new.left.items ≡ map formula_tree old.left.items ++ side_links bases ps (count_pick (after_picks bases ps c) s.table t.table) s
  pub right :
      let ps = picks bases c s.terms t.terms in
      map formula_tree new.right.items ≡ map formula_tree old.right.items ++ side_links bases ps (count_pick (after_picks bases ps c) s.table t.table) t
  pub used :
      let ps = picks bases c s.terms t.terms in
      d ≡ after_pick (after_picks bases ps c) count_base (count_pick (after_picks bases ps c) s.table t.table)
