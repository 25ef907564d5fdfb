use Rattle.std.proofs.Common.{◌≡◌, ◌++◌}
use Rattle.qed_linear.specs.Totals.{total_parts}
use Rattle.qed_linear.specs.View.{wide_parts}
use Rattle.qed_linear.proofs.totals.summed.Given as goal

abbrev pub invariant-loop-key : goal.invariant-loop-key
invariant-loop-key l = wide_parts l.parts.items ++ total_parts l.key-iterator ≡ total_parts l.total.parts.entries
