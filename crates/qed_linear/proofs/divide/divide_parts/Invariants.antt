use Rattle.std.proofs.Common.{◌≡◌, ◌++◌, length}
use Rattle.qed_linear.specs.Linear.{divide_parts}
use Rattle.qed_linear.specs.View.{parts_of}
use Rattle.qed_linear.proofs.divide.divide_parts.Given as goal

abbrev pub invariant-loop-part : goal.invariant-loop-part
invariant-loop-part l = record {
  count : l.part-iterator.rest.len ≡ length l.part-iterator.rest.items;
  so_far : parts_of l.quotients.items ++ divide_parts l.by (parts_of l.part-iterator.rest.items) ≡ divide_parts l.by (parts_of l.fn.parts.items);
}
