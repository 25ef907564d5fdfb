use Rattle.std.proofs.Common.{◌≡◌}
use Rattle.qed_calls.proofs.Kids.{ArgumentFrom}
use Rattle.qed_calls.proofs.arguments.argument_for.Given as goal

-- what is left decides
abbrev pub invariant-loop-at : goal.invariant-loop-at
invariant-loop-at l = ArgumentFrom l.names l.kids l.name l.sort 0 ≡ ArgumentFrom l.names l.kids l.name l.sort l.at
