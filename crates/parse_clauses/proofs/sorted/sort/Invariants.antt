use Rattle.std.proofs.Common.{◌≡◌, length, map}
use Rattle.parse_clauses.specs.Sorts.{and_then, sorted_of}
use Rattle.parse_clauses.specs.Views.{view_item, view_sorted}
use Rattle.parse_clauses.proofs.sorted.sort.Given as goal

-- those so far, and then those that are to come
abbrev pub invariant-loop-item : goal.invariant-loop-item
invariant-loop-item l = record {
  count : l.item-iterator.rest.len ≡ length l.item-iterator.rest.items;
  so_far : and_then (view_sorted l.sorted) (sorted_of (map view_item l.item-iterator.rest.items)) ≡ sorted_of (map view_item l.fn.items);
}
