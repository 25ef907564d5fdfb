use Rattle.std.proofs.Common.{◌≡◌, ◌≤◌, length}
use Rattle.qed_calls.proofs.Kids.{MatchFrom}
use Rattle.regular_settings.proofs.uses.kids_match.Given as goal

-- what is left decides
abbrev pub invariant-loop-at : goal.invariant-loop-at
invariant-loop-at l = record {
  within : l.at ≤ length l.kids;
  left : MatchFrom l.names l.kids 0 ≡ MatchFrom l.names l.kids l.at;
}
