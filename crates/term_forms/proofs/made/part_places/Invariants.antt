use Rattle.std.proofs.Common.{◌≡◌, ◌<◌, All, map, take}
use Rattle.qed_linear.specs.Linear.{part_tree}
use Rattle.same_terms.specs.Stands.{tree_parts}
use Rattle.tree_places.specs.Tables.{Grows}
use Rattle.tree_places.specs.View.{nodes_of, IsKept}
use Rattle.term_forms.specs.Forms.{tree_of, count_of}
use Rattle.term_forms.proofs.made.part_places.Given as goal

abbrev pub invariant-loop-part : goal.invariant-loop-part
invariant-loop-part l = record {
  kept : IsKept l.table;
  grows : Grows (nodes_of l.initial.table) (nodes_of l.table);
  below : All (λ k. k < count_of l.table) l.places.items;
  trees : map (tree_of l.table) l.places.items ≡ map part_tree (tree_parts (tree_of l.initial.table) (take l.part-index l.parts));
}
