use Rattle.std.proofs.Common.{◌+◌, length, drop}
use Rattle.linear_chains.specs.Sums.{Adding}
use Rattle.linear_chains.proofs.sums.opposite.Given as goal

abbrev pub invariant-loop-class : goal.invariant-loop-class
invariant-loop-class l = Adding l.left l.right l.form.items (drop l.i l.left) (drop l.j l.right)

abbrev pub decreases-loop-class : goal.decreases-loop-class
decreases-loop-class l = length (drop l.i l.left) + length (drop l.j l.right)
