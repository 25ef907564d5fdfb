use Rattle.std.proofs.Common.{◌≡◌, map}
use Rattle.same_places.specs.View.{row_of}
use Rattle.tree_places.specs.Heads.{KeepsNumbers}
use Rattle.tree_places.specs.View.{numbers_of, nodes_of, IsKept}
use Rattle.term_forms.specs.Forms.{tree_of, count_of}
use Rattle.branch_rows.specs.Marks.{mark_at}
use Rattle.branch_rows.specs.Rows.{AreRows}
use Rattle.branch_rows.proofs.rows.marked_rows.Given as goal

abbrev pub invariant-loop-place : goal.invariant-loop-place
invariant-loop-place l = record {
  kept : IsKept l.table;
  nodes : nodes_of l.table ≡ nodes_of l.initial.table;
  older : KeepsNumbers (numbers_of l.initial.table.heads) (numbers_of l.table.heads);
  rows : AreRows (tree_of l.table) (numbers_of l.table.heads) (count_of l.table) (mark_at l.marks) l.place (map row_of l.rows.items);
}
