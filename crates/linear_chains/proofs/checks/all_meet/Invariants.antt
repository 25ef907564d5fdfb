use Rattle.std.proofs.Common.{◌≡◌, ℕ, ◌<◌, map}
use Rattle.std.specs.Prelude.{Some, slice_get, ◌≤ℤ◌, ◌+ℤ◌}
use Rattle.linear_chains.specs.Links.{Step}
use Rattle.linear_chains.specs.Tables.{number_in}
use Rattle.linear_chains.specs.View.{side_step}
use Rattle.linear_chains.proofs.checks.all_meet.Given as goal

abbrev pub invariant-loop-i : goal.invariant-loop-i
invariant-loop-i l = (k : ℕ) (s : Step) → k < l.i → slice_get (map side_step l.steps) k ≡ Some s → number_in l.table.entries l.numbers s.from ≤ℤ (number_in l.table.entries l.numbers s.to +ℤ s.bound)
