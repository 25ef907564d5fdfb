use Rattle.tree_places.specs.Tables.{Grows}
use Rattle.tree_places.specs.View.{nodes_of, IsKept}
use Rattle.term_forms.specs.Forms.{tree_of, count_of}
use Rattle.term_rests.specs.Rests.{ArePairs}
use Rattle.term_rests.proofs.rests.rest_pairs.Given as goal

abbrev pub invariant-loop-at : goal.invariant-loop-at
invariant-loop-at l = record {
  kept : IsKept l.table;
  grows : Grows (nodes_of l.initial.table) (nodes_of l.table);
  pairs : ArePairs (count_of l.table) (tree_of l.initial.table) (tree_of l.table) l.form l.at l.pairs.items;
}
