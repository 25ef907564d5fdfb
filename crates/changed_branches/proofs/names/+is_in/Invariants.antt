use Rattle.std.proofs.Common.{◌≡◌, map, drop}
use Rattle.qed_terms.specs.Tree.{size}
use Rattle.branch_changes.specs.NewNames.{is_in, is_among}
use Rattle.changed_branches.proofs.names.+is_in.Given as goal

abbrev pub decreases-is_in : goal.decreases-is_in
decreases-is_in g l = size (g.S.TermStore.tree l.store.now l.id)

abbrev pub invariant-loop-at : goal.invariant-loop-at
invariant-loop-at g l = let tree = g.S.TermStore.tree l.store in is_in l.name (tree l.fn.id) ≡ is_among l.name (drop l.at (map tree l.kids))
