use Rattle.std.proofs.Common.{◌≡◌}
use Rattle.call_instances.proofs.TakerLaws.{TermsFrom}
use Rattle.call_instances.proofs.takers.are_terms.Given as goal

-- what is left decides
abbrev pub invariant-loop-at : goal.invariant-loop-at
invariant-loop-at g l = TermsFrom (g.S.TermStore.tree l.store) l.kids 0 ≡ TermsFrom (g.S.TermStore.tree l.store) l.kids l.at
