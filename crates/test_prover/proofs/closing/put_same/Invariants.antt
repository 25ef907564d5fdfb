use Rattle.tree_places.specs.View.{IsKept}
use Rattle.test_prover.proofs.closing.put_same.Given as goal

abbrev pub invariant-loop-equality : goal.invariant-loop-equality
invariant-loop-equality g l = IsKept l.table
