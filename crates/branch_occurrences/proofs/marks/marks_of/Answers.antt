use Rattle.tree_places.specs.View.{numbers_of, find_in, nodes_of}
use Rattle.tree_places.proofs.Nodes.{grows_on}
use Rattle.branch_occurrences.proofs.FirstPlaces.{mark_more}
use Rattle.branch_occurrences.proofs.marks.marks_of.Goals as goal

pub loop-id-preserved : goal.loop-id-preserved
loop-id-preserved g c =
    let tree = g.S.TermStore.tree c.args.store.now in
    let ns = nodes_of c.loop-id.table in
    let ms = nodes_of c.place_of.new.table in
    record {
      kept = c.in_ok-place.ensures.kept;
      grows = grows_on (nodes_of c.args.table.now) ns ms c.loop-id.invariant.grows c.in_ok-place.ensures.grows;
      marked = mark_more tree ns ms (numbers_of c.loop-id.table.heads) (find_in c.loop-id.table.places.entries) c.loop-id.invariant.kept.table c.in_ok-place.ensures.grows c.args.ids.now c.loop-id.id-index
          c.id-item.result c.in_ok-place.place c.loop-id.marks.items c.mark.new.marks.items c.loop-id-test.true c.id-item.is c.loop-id.invariant.marked c.in_ok-place.ensures.below c.in_ok-place.ensures.tree c.in_ok-mark.ensures;
    }
