-- What the code's clauses are in the grammar.
use Rattle.std.specs.Prelude.{map}
use Rattle.c_syntax.specs.View.{view_clause, view_measure, view_assigns}
use Rattle.c_grammar.specs.Annots as g
use Rattle.parse_clauses.specs.declared.items.Item.{Item}
use Rattle.parse_clauses.specs.declared.items.Item.TheVariants as item
use Rattle.parse_clauses.specs.declared.sorted.Sorted.{Sorted}
use Rattle.parse_clauses.specs.Sorts as spec

abbrev pub view_item : Item → g.Item
view_item (item.Requires c) = g.requires_item (view_clause c)
view_item (item.Ensures c) = g.ensures_item (view_clause c)
view_item (item.Assumes c) = g.assumes_item (view_clause c)
view_item (item.Invariant c) = g.invariant_item (view_clause c)
view_item (item.Assigns a) = g.assigns_item (view_assigns a)
view_item (item.LoopAssigns a) = g.loop_assigns_item (view_assigns a)
view_item (item.Decreases m) = g.decreases_item (view_measure m)
view_item (item.Variant m) = g.variant_item (view_measure m)

abbrev pub view_sorted : Sorted → spec.Sorted
view_sorted s = record {
  requires_ = map view_clause s.requires_;
  ensures_ = map view_clause s.ensures_;
  assumes = map view_clause s.assumes;
  invariants = map view_clause s.invariants;
  assigns = map view_assigns s.assigns;
  decreases_ = map view_measure s.decreases_;
  variants = map view_measure s.variants;
}
