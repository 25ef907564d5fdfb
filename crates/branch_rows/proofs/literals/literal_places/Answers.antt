use Rattle.std.proofs.Common.{◌<◌, All, length, map, subst, sym, ap, ◌∙◌}
use Rattle.tree_places.specs.Tables.{tree_at}
use Rattle.tree_places.specs.View.{numbers_of, find_in, nodes_of}
use Rattle.tree_places.proofs.Nodes.{kids_more, below_more, grows_on}
use Rattle.branch_rows.proofs.literals.literal_places.Goals as goal

pub loop-id-preserved : goal.loop-id-preserved
loop-id-preserved g c =
    let tree = g.S.TermStore.tree c.args.store.now in
    let ns = nodes_of c.loop-id.table in
    let ms = nodes_of c.place_of.new.table in
    let done = c.loop-id.places.items in
    let i = c.in_ok-place_of.field-0 in
    record {
      kept = c.in_ok-place_of.ensures.kept;
      grows = grows_on (nodes_of c.args.table.now) ns ms c.loop-id.invariant.grows c.in_ok-place_of.ensures.grows;
      below = subst (λ xs. All (λ j. j < length ms) xs) (sym c.in_ok-push.ensures.items) (below_more ns ms c.in_ok-place_of.ensures.grows done i c.loop-id.invariant.below c.in_ok-place_of.ensures.below);
      trees = ap (map (tree_at ms)) c.in_ok-push.ensures.items
          ∙ kids_more ns ms (numbers_of c.loop-id.table.heads) (find_in c.loop-id.table.places.entries) c.loop-id.invariant.kept.table c.in_ok-place_of.ensures.grows tree c.args.ids.now c.loop-id.id-index c.id-item.result done i c.loop-id-test.true c.id-item.is c.loop-id.invariant.below c.loop-id.invariant.trees c.in_ok-place_of.ensures.tree;
    }
