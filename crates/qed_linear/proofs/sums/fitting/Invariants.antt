use Rattle.std.proofs.Common.{◌≡◌, ◌++◌, length, true}
use Rattle.qed_linear.specs.Linear.{numbers_fit}
use Rattle.qed_linear.specs.View.{parts_of, wide_parts}
use Rattle.qed_linear.proofs.sums.fitting.Given as goal

abbrev pub invariant-loop-part : goal.invariant-loop-part
invariant-loop-part l = record {
  count : l.part-iterator.rest.len ≡ length l.part-iterator.rest.items;
  so_far : parts_of l.parts.items ++ wide_parts l.part-iterator.rest.items ≡ wide_parts l.fn.sum.parts.items;
  hold : numbers_fit (parts_of l.parts.items) ≡ true;
}
