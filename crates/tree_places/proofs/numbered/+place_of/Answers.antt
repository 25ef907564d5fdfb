use Rattle.std.proofs.Common.{◌<◌, All, length, map, subst, sym, ap, ◌∙◌, arith}
use Rattle.tree_places.specs.Tables.{tree_at}
use Rattle.tree_places.specs.View.{numbers_of, find_in, nodes_of}
use Rattle.tree_places.proofs.Nodes.{kids_more, below_more, whole_node, grows_on, kid_less, kid_held}
use Rattle.tree_places.proofs.numbered.+place_of.Goals as goal

pub place_of-requires : goal.place_of-requires
place_of-requires g t c κs within =
    let tree = g.S.TermStore.tree c.args.store.now in
    let less = kid_less tree c.kids-kid-items.result.now c.loop-kid.kid-index c.kid-item.result (tree c.args.id) c.loop-kid-test.true c.kid-item.is c.kids-kid-items.ensures.stand in
    let d = c.decreases in
    (omega (arith, less, d), (within.0, (within.1, (kid_held (g.S.TermStore.held c.args.store.now) c.kids-kid-items.result.now c.loop-kid.kid-index c.kid-item.result c.kids-kid-items.ensures.held c.loop-kid-test.true c.kid-item.is, c.loop-kid.invariant.kept))))

pub loop-kid-preserved : goal.loop-kid-preserved
loop-kid-preserved g t c =
    let tree = g.S.TermStore.tree c.args.store.now in
    let ns = nodes_of c.loop-kid.table in
    let ms = nodes_of c.place_of.new.table in
    let done = c.loop-kid.kids.items in
    let i = c.in_ok-place_of.field-0 in
    record {
      kept = c.in_ok-place_of.ensures.kept;
      grows = grows_on (nodes_of c.args.table.now) ns ms c.loop-kid.invariant.grows c.in_ok-place_of.ensures.grows;
      below = subst (λ xs. All (λ j. j < length ms) xs) (sym c.in_ok-push.ensures.items) (below_more ns ms c.in_ok-place_of.ensures.grows done i c.loop-kid.invariant.below c.in_ok-place_of.ensures.below);
      trees = ap (map (tree_at ms)) c.in_ok-push.ensures.items
          ∙ kids_more ns ms (numbers_of c.loop-kid.table.heads) (find_in c.loop-kid.table.places.entries) c.loop-kid.invariant.kept.table c.in_ok-place_of.ensures.grows tree c.kids-kid-items.result.now c.loop-kid.kid-index c.kid-item.result done i c.loop-kid-test.true c.kid-item.is c.loop-kid.invariant.below c.loop-kid.invariant.trees c.in_ok-place_of.ensures.tree;
    }

pub returns-clause-tree : goal.returns-clause-tree
returns-clause-tree g t c =
    let tree = g.S.TermStore.tree c.args.store.now in
    c.in_ok-place.ensures.tree ∙ whole_node (nodes_of c.loop-kid.table) tree c.kids-kid-items.result.now c.loop-kid.kid-index (tree c.args.id) c.head.result.now c.loop-kid.kids.items c.loop-kid-test.false c.kids-kid-items.ensures.stand c.head.ensures c.loop-kid.invariant.trees
