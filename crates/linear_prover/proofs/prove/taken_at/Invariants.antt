use Rattle.std.proofs.Common.{take}
use Rattle.branch_links.specs.Numbered.{At}
use Rattle.linear_prover.proofs.prove.taken_at.Given as goal

abbrev pub invariant-loop-i : goal.invariant-loop-i
invariant-loop-i l = At l.literals (take l.i l.places) l.taken.items
