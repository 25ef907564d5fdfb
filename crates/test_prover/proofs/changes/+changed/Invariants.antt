use Rattle.test_prover.proofs.changes.+changed.Given as goal

abbrev pub decreases-changed : goal.decreases-changed
decreases-changed g l = l.room
