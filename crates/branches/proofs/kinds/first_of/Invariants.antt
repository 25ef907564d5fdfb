use Rattle.std.proofs.Common.{take, map}
use Rattle.branches.specs.Steps.{NoneSo}
use Rattle.branches.specs.Branch.{IsKind}
use Rattle.branches.proofs.kinds.first_of.Given as goal

abbrev pub invariant-loop-at : goal.invariant-loop-at
invariant-loop-at g l = NoneSo (IsKind l.kind) (take l.at (map (g.S.TermStore.tree l.store) l.ids))
