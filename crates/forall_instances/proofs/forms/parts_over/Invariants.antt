use Rattle.std.proofs.Common.{◌≡◌, true, ◌++◌, length}
use Rattle.qed_linear.specs.Linear.{parts_fit}
use Rattle.qed_linear.specs.View.{parts_of}
use Rattle.instance_rows.specs.Triggers.{parts_over}
use Rattle.forall_instances.proofs.forms.parts_over.Given as goal

-- the parts so far, which fit, and those of what is left make the whole
abbrev pub invariant-loop-part : goal.invariant-loop-part
invariant-loop-part l = record {
  count : l.part-iterator.rest.len ≡ length l.part-iterator.rest.items;
  so_far : parts_of l.made.items ++ parts_over l.by (parts_of l.part-iterator.rest.items) ≡ parts_over l.by (parts_of l.fn.parts.items);
  fit : parts_fit (parts_of l.made.items) ≡ true;
}
