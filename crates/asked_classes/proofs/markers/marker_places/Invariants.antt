use Rattle.std.proofs.Common.{◌≡◌, ◌<◌, map, take, All}
use Rattle.tree_places.specs.Tables.{Grows}
use Rattle.tree_places.specs.View.{nodes_of, IsKept}
use Rattle.term_forms.specs.Forms.{tree_of, count_of}
use Rattle.instance_rows.specs.Candidates.{marker}
use Rattle.asked_classes.proofs.markers.marker_places.Given as goal

abbrev pub invariant-loop-id : goal.invariant-loop-id
invariant-loop-id g l = record {
  kept : IsKept l.table;
  grows : Grows (nodes_of l.initial.table) (nodes_of l.table);
  below : All (λ k. k < count_of l.table) l.places.items;
  trees : map (tree_of l.table) l.places.items ≡ map (λ id. marker (g.S.TermStore.tree l.store id)) (take l.id-index l.ids);
}
