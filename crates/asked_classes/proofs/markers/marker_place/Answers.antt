use Rattle.std.proofs.Common.{◌∙◌, ap, map}
use Rattle.std.specs.Prelude.{pos}
use Rattle.qed_terms.specs.declared.head.Head.TheVariants as h
use Rattle.qed_terms.specs.Tree.{node, trees_of}
use Rattle.tree_places.specs.Tables.{tree_at}
use Rattle.tree_places.specs.View.{numbers_of, find_in, nodes_of}
use Rattle.asked_classes.proofs.Marking.{marker_is}
use Rattle.asked_classes.proofs.markers.marker_place.Goals as goal

pub returns-clause-tree : goal.returns-clause-tree
returns-clause-tree g c =
    let zero = c.in_ok-zero.ensures.tree ∙ ap (λ ks. node (h.Num (pos 0)) (trees_of (map (tree_at (nodes_of c.args.table.now)) ks))) c.new-none.ensures.items in
    marker_is (nodes_of c.put.new.table) (nodes_of c.place_of.new.table) (numbers_of c.put.new.table.heads) (find_in c.put.new.table.places.entries) c.in_ok-zero.ensures.kept.table
    c.in_ok-term.ensures.grows c.in_ok-zero.zero c.in_ok-term.term c.in_ok-kids.kids.items (g.S.TermStore.tree c.args.store.now c.args.id) _ c.in_ok-zero.ensures.below zero
    c.in_ok-term.ensures.tree c.in_ok-kids.ensures c.in_ok-place.ensures.tree
