use Rattle.std.proofs.Common.{◌≡◌, map, drop}
use Rattle.qed_terms.specs.Tree.{size}
use Rattle.stored_puts.specs.Kids.{kids_free}
use Rattle.stored_puts.proofs.free.+is_free.Given as goal

abbrev pub decreases-is_free : goal.decreases-is_free
decreases-is_free g l = size (g.S.TermStore.tree l.store.now l.id)

-- it is free in none of the kids so far
abbrev pub invariant-loop-at : goal.invariant-loop-at
invariant-loop-at g l =
    let tree = g.S.TermStore.tree l.store in
    kids_free l.name l.sort l.bound 0 (map tree l.kids) ≡ kids_free l.name l.sort l.bound l.at (map tree (drop l.at l.kids))
