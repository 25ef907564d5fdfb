use Rattle.std.proofs.Common.{◌≡◌, map, take}
use Rattle.qed_terms.specs.Tree.{size}
use Rattle.same_ids.proofs.same.+is_same.Given as goal

abbrev pub decreases-is_same : goal.decreases-is_same
decreases-is_same g l = size (g.S.TermStore.tree l.store.now l.left)

-- the kids so far are the same
abbrev pub invariant-loop-at : goal.invariant-loop-at
invariant-loop-at g l = map (g.S.TermStore.tree l.store) (take l.at l.kids) ≡ map (g.S.TermStore.tree l.store) (take l.at l.others)
