use Rattle.std.proofs.Common.{◌≡◌, ◌<◌, length, map, take, All}
use Rattle.qed_terms.specs.Tree.{size}
use Rattle.tree_places.specs.Tables.{tree_at, Grows}
use Rattle.tree_places.specs.View.{nodes_of, IsKept}
use Rattle.tree_places.proofs.numbered.+place_of.Given as goal

abbrev pub decreases-place_of : goal.decreases-place_of
decreases-place_of g l = size (g.S.TermStore.tree l.store.now l.id)

-- the places of the kids so far
abbrev pub invariant-loop-kid : goal.invariant-loop-kid
invariant-loop-kid g l = record {
  kept : IsKept l.table;
  grows : Grows (nodes_of l.initial.table) (nodes_of l.table);
  below : All (λ k. k < length (nodes_of l.table)) l.kids.items;
  trees : map (tree_at (nodes_of l.table)) l.kids.items ≡ map (g.S.TermStore.tree l.store) (take l.kid-index l.kid-items);
}
