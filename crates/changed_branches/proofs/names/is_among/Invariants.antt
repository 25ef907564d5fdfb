use Rattle.std.proofs.Common.{◌≡◌, map, drop}
use Rattle.branch_changes.specs.NewNames.{is_among}
use Rattle.changed_branches.proofs.names.is_among.Given as goal

abbrev pub invariant-loop-at : goal.invariant-loop-at
invariant-loop-at g l = let trees = map (g.S.TermStore.tree l.store) l.ids in is_among l.name trees ≡ is_among l.name (drop l.at trees)
