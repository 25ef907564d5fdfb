use Rattle.std.proofs.Common.{◌≡◌, map, take}
use Rattle.same_places.specs.Same.{PartsWithin}
use Rattle.same_terms.specs.Stands.{tree_part}
use Rattle.same_terms.specs.Written.{written_part}
use Rattle.term_forms.specs.Forms.{tree_of, count_of}
use Rattle.term_forms.proofs.forms.front_parts.Given as goal

abbrev pub invariant-loop-i : goal.invariant-loop-i
invariant-loop-i l = record {
  parts : map (tree_part (tree_of l.table)) l.parts.items ≡ map written_part (map (tree_of l.table) (take l.i l.terms));
  below : PartsWithin (count_of l.table) l.parts.items;
}
