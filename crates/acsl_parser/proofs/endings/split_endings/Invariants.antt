use Rattle.std.proofs.Common.{◌≡◌, ◌++◌, length, map}
use Rattle.c_grammar.specs.Annots.{complete_of, disjoint_of}
use Rattle.acsl_parser.specs.Views.{view_ending}
use Rattle.acsl_parser.proofs.endings.split_endings.Given as goal

-- those so far, and those that are to come
abbrev pub invariant-loop-ending : goal.invariant-loop-ending
invariant-loop-ending l = record {
  count : l.ending-iterator.rest.len ≡ length l.ending-iterator.rest.items;
  complete : l.complete ++ complete_of (map view_ending l.ending-iterator.rest.items) ≡ complete_of (map view_ending l.fn.endings);
  disjoint : l.disjoint ++ disjoint_of (map view_ending l.ending-iterator.rest.items) ≡ disjoint_of (map view_ending l.fn.endings);
}
