use Rattle.test_prover.proofs.refuted.+goes_round.Given as goal

abbrev pub decreases-goes_round : goal.decreases-goes_round
decreases-goes_round l = l.room
