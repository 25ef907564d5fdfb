use Rattle.std.proofs.Common.{◌≡◌, map, drop}
use Rattle.qed_terms.specs.Free.{is_free}
use Rattle.qed_terms.specs.Tree.{size}
use Rattle.equality_variables.specs.Names.{free_in}
use Rattle.equality_variables.proofs.free.+is_free.Given as goal

abbrev pub decreases-is_free : goal.decreases-is_free
decreases-is_free g l = size (g.S.TermStore.tree l.store.now l.id)

abbrev pub invariant-loop-at : goal.invariant-loop-at
invariant-loop-at g l = let tree = g.S.TermStore.tree l.store in is_free l.name l.sort (tree l.fn.id) ≡ free_in l.name l.sort (drop l.at (map tree l.kids))
