use Rattle.std.proofs.Common.{◌≡◌, ◌++◌, true, take}
use Rattle.qed_linear.specs.Linear.{parts_fit}
use Rattle.same_places.specs.Same.{PartsWithin}
use Rattle.same_terms.specs.Stands.{tree_parts}
use Rattle.term_forms.specs.Forms.{tree_of, count_of}
use Rattle.term_forms.proofs.Signed.{all_signed}
use Rattle.term_forms.proofs.rests.put_signed.Given as goal

abbrev pub invariant-loop-part : goal.invariant-loop-part
invariant-loop-part l = record {
  put : tree_parts (tree_of l.table) l.into.items ≡ tree_parts (tree_of l.table) l.initial.into.items ++ all_signed (tree_of l.table) l.plus (take l.part-index l.parts);
  within : PartsWithin (count_of l.table) l.initial.into.items → PartsWithin (count_of l.table) l.into.items;
  fit : parts_fit (all_signed (tree_of l.table) l.plus (take l.part-index l.parts)) ≡ true;
}
