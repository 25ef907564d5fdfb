use Rattle.std.proofs.Common.{◌<◌, All, length, map, subst, sym, ap, ◌∙◌}
use Rattle.tree_places.specs.Tables.{tree_at}
use Rattle.tree_places.specs.View.{numbers_of, find_in, nodes_of}
use Rattle.tree_places.proofs.Nodes.{kids_more, below_more, grows_on}
use Rattle.instance_rows.specs.Candidates.{marker}
use Rattle.asked_classes.proofs.Marking.{markers_done}
use Rattle.asked_classes.proofs.markers.marker_places.Goals as goal

pub loop-id-preserved : goal.loop-id-preserved
loop-id-preserved g c =
    let ns = nodes_of c.loop-id.table in
    let ms = nodes_of c.marker_place.new.table in
    let done = c.loop-id.places.items in
    let i = c.in_ok-marker_place.field-0 in
    record {
      kept = c.in_ok-marker_place.ensures.kept;
      grows = grows_on (nodes_of c.args.table.now) ns ms c.loop-id.invariant.grows c.in_ok-marker_place.ensures.grows;
      below = subst (λ xs. All (λ j. j < length ms) xs) (sym c.in_ok-push.ensures.items) (below_more ns ms c.in_ok-marker_place.ensures.grows done i c.loop-id.invariant.below c.in_ok-marker_place.ensures.below);
      trees = ap (map (tree_at ms)) c.in_ok-push.ensures.items
          ∙ kids_more ns ms (numbers_of c.loop-id.table.heads) (find_in c.loop-id.table.places.entries) c.loop-id.invariant.kept.table c.in_ok-marker_place.ensures.grows (λ id. marker (g.S.TermStore.tree c.args.store.now id)) c.args.ids.now c.loop-id.id-index c.id-item.result done i c.loop-id-test.true c.id-item.is c.loop-id.invariant.below c.loop-id.invariant.trees c.in_ok-marker_place.ensures.tree;
    }

pub returns-clause-trees : goal.returns-clause-trees
returns-clause-trees g c = markers_done (g.S.TermStore.tree c.args.store.now) c.args.ids.now c.loop-id.id-index _ c.loop-id-test.false c.loop-id.invariant.trees
