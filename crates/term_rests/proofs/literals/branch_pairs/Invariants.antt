use Rattle.std.proofs.Common.{map, take}
use Rattle.tree_places.specs.Tables.{Grows}
use Rattle.tree_places.specs.View.{nodes_of, IsKept}
use Rattle.term_forms.specs.Forms.{tree_of, count_of}
use Rattle.term_rests.specs.Rests.{AreRests}
use Rattle.term_rests.proofs.literals.branch_pairs.Given as goal

abbrev pub invariant-loop-i : goal.invariant-loop-i
invariant-loop-i l = record {
  kept : IsKept l.table;
  grows : Grows (nodes_of l.initial.table) (nodes_of l.table);
  pairs : AreRests (count_of l.table) (tree_of l.table) (map (tree_of l.initial.table) (take l.i l.literals)) l.pairs.items;
}
