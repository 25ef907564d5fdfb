use Rattle.std.proofs.Common.{◌≡◌, take, map, All}
use Rattle.variable_changes.specs.Found.{sorted}
use Rattle.variable_changes.proofs.putting.sorted.Given as goal

abbrev pub invariant-loop-at : goal.invariant-loop-at
invariant-loop-at g l =
    let tree = g.S.TermStore.tree l.store in
    record { held : All (g.S.TermStore.held l.store) l.made.items; sorted : map tree l.made.items ≡ sorted l.literals (map tree (take l.at l.ids)) }
