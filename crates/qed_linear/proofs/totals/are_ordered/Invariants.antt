use Rattle.std.proofs.Common.{◌≡◌, drop}
use Rattle.qed_linear.specs.Totals.{are_ordered}
use Rattle.qed_linear.specs.View.{parts_of}
use Rattle.qed_linear.proofs.totals.are_ordered.Given as goal

abbrev pub invariant-loop-at : goal.invariant-loop-at
invariant-loop-at l = are_ordered (parts_of (drop l.at l.parts)) ≡ are_ordered (parts_of l.parts)
