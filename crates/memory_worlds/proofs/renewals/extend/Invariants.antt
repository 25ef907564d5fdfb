use Rattle.std.proofs.Common.{◌≡◌, ◌++◌, drop}
use Rattle.memory_worlds.proofs.renewals.extend.Given as goal

-- those there and those to come are all
abbrev pub invariant-loop-at : goal.invariant-loop-at
invariant-loop-at l = l.kids.items ++ drop l.at l.terms ≡ l.initial.kids.items ++ l.terms
