use Rattle.std.proofs.Common.{[], map}
use Rattle.qed_rules.specs.Rules.{drop_repeats}
use Rattle.tree_places.specs.View.{numbers_of, find_in, nodes_of}
use Rattle.tree_places.proofs.Nodes.{grows_on, kid_held}
use Rattle.branch_occurrences.proofs.FirstPlaces.{one_pass, all_held, rest_done}
use Rattle.branch_occurrences.proofs.repeats.without_repeats.Goals as goal

pub loop-id-preserved : goal.loop-id-preserved
loop-id-preserved g c =
    let tree = g.S.TermStore.tree c.args.store.now in
    let held = g.S.TermStore.held c.args.store.now in
    let ns = nodes_of c.loop-id.table in
    let ms = nodes_of c.place_of.new.table in
    let x = c.id-item.result in
    let ids = c.args.ids.now in
    let i = c.loop-id.id-index in
    let pass = one_pass tree ns ms (numbers_of c.loop-id.table.heads) (numbers_of c.place_of.new.table.heads) (find_in c.loop-id.table.places.entries) (find_in c.place_of.new.table.places.entries)
    c.loop-id.invariant.kept.table c.in_ok-place.ensures.kept.table c.in_ok-place.ensures.grows ids i x c.in_ok-place.place (drop_repeats [] (map tree ids))
    c.loop-id-test.true c.id-item.is c.in_ok-place.ensures.below c.in_ok-place.ensures.tree
    c.loop-id.left.items c.keep_new.new.left.items c.loop-id.marks.items c.keep_new.new.marks.items c.loop-id.invariant.marked c.loop-id.invariant.rest
    c.in_ok-keep_new.ensures.there c.in_ok-keep_new.ensures.new_marks c.in_ok-keep_new.ensures.new_left in
    record {
      kept = c.in_ok-place.ensures.kept;
      grows = grows_on (nodes_of c.args.table.now) ns ms c.loop-id.invariant.grows c.in_ok-place.ensures.grows;
      held = all_held held c.loop-id.left.items c.keep_new.new.left.items c.loop-id.marks.items c.keep_new.new.marks.items c.in_ok-place.place x c.loop-id.invariant.held
          (kid_held held ids i x c.requires.held c.loop-id-test.true c.id-item.is) c.in_ok-keep_new.ensures.there c.in_ok-keep_new.ensures.new_left;
      marked = pass.marked;
      rest = pass.rest;
    }

pub returns-clause-trees : goal.returns-clause-trees
returns-clause-trees g c =
    let tree = g.S.TermStore.tree c.args.store.now in
    rest_done tree c.loop-id.left.items c.args.ids.now c.loop-id.id-index (drop_repeats [] (map tree c.args.ids.now)) c.loop-id-test.false c.loop-id.invariant.rest
