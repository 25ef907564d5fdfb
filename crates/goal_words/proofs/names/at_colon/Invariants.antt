use Rattle.std.proofs.Common.{◌≡◌, ◌++◌, take, drop}
use Rattle.qed_terms.specs.Names.{before_colon, after_colon}
use Rattle.goal_words.proofs.names.at_colon.Given as goal

-- there is no colon so far
abbrev pub invariant-loop-i : goal.invariant-loop-i
invariant-loop-i l = record {
  before : take l.i l.bytes ++ before_colon (drop l.i l.bytes) ≡ before_colon l.bytes;
  after : after_colon (drop l.i l.bytes) ≡ after_colon l.bytes;
}
