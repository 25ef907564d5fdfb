use Rattle.std.proofs.Common.{◌≡◌, ◌≤◌, length}
use Rattle.call_instances.proofs.TakerLaws.{MatchFrom}
use Rattle.call_instances.proofs.takers.kids_match.Given as goal

-- what is left decides
abbrev pub invariant-loop-at : goal.invariant-loop-at
invariant-loop-at g l = record {
  within : l.at ≤ length l.kids;
  left : MatchFrom (g.S.TermStore.tree l.store) l.names l.kids 0 ≡ MatchFrom (g.S.TermStore.tree l.store) l.names l.kids l.at;
}
