use Rattle.std.proofs.Common.{◌≡◌, ◌+◌, ◌*◌, All, map, take}
use Rattle.qed_terms.specs.Tree.{head_of, size}
use Rattle.qed_terms.specs.Nodes.{kids_of}
use Rattle.qed_terms.specs.Store.{KeepsOlder}
use Rattle.stored_puts.specs.Kids.{kids_put}
use Rattle.stored_puts.proofs.put.+put.Given as goal

abbrev pub decreases-put_in : goal.decreases-put_in
decreases-put_in g l = 2 * size (g.S.TermStore.tree l.store.now l.id)

abbrev pub decreases-put_kid : goal.decreases-put_kid
decreases-put_kid g l = 2 * size (g.S.TermStore.tree l.store.now l.id) + 1

-- the ids so far stand for what becomes of the kids so far
abbrev pub invariant-put_in-loop-at : goal.invariant-put_in-loop-at
invariant-put_in-loop-at g l =
    let tree = g.S.TermStore.tree in
    let held = g.S.TermStore.held in
    record {
      same_head : l.head ≡ head_of (tree l.initial.store l.id);
      kept : KeepsOlder (held l.initial.store) (held l.store) (tree l.initial.store) (tree l.store);
      ids_held : All (held l.store) l.kids.items;
      so_far : map (tree l.store) l.kids.items ≡ take l.at (kids_put l.given.sort l.given.name (tree l.initial.store l.given.term) l.bound 0 (kids_of (tree l.initial.store l.id)));
    }
