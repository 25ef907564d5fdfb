use Rattle.std.proofs.Common.{◌≡◌, map, drop}
use Rattle.qed_terms.specs.Tree.{size}
use Rattle.stored_puts.specs.Kids.{clear_at, kids_clear}
use Rattle.stored_puts.proofs.clear.+is_clear.Given as goal

abbrev pub decreases-is_clear : goal.decreases-is_clear
decreases-is_clear g l = size (g.S.TermStore.tree l.store.now l.id)

-- all kids so far are clear
abbrev pub invariant-loop-at : goal.invariant-loop-at
invariant-loop-at g l =
    let tree = g.S.TermStore.tree l.store in
    kids_clear (λ b t. clear_at l.given.sort b l.given.name (tree l.given.term) t) l.under l.bound l.covered 0 (map tree l.kids)
    ≡ kids_clear (λ b t. clear_at l.given.sort b l.given.name (tree l.given.term) t) l.under l.bound l.covered l.at (map tree (drop l.at l.kids))
