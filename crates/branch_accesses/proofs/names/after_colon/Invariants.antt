use Rattle.std.proofs.Common.{◌≡◌, drop}
use Rattle.qed_terms.specs.Names.{after_colon}
use Rattle.branch_accesses.proofs.names.after_colon.Given as goal

-- there is no colon so far
abbrev pub invariant-loop-i : goal.invariant-loop-i
invariant-loop-i l = after_colon (drop l.i l.bytes) ≡ after_colon l.bytes
