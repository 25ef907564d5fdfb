use Rattle.std.proofs.Common.{◌≡◌, take}
use Rattle.tree_places.specs.Tables.{Grows}
use Rattle.tree_places.specs.View.{nodes_of, IsKept}
use Rattle.branch_occurrences.specs.Marked.{AreMarked}
use Rattle.branch_occurrences.proofs.marks.marks_of.Given as goal

abbrev pub invariant-loop-id : goal.invariant-loop-id
invariant-loop-id g l = record {
  kept : IsKept l.table;
  grows : Grows (nodes_of l.initial.table) (nodes_of l.table);
  marked : AreMarked (g.S.TermStore.tree l.store) (nodes_of l.table) (take l.id-index l.ids) l.marks.items;
}
