use Rattle.std.proofs.Common.{map, sym, subst}
use Rattle.variable_changes.proofs.Replaced.{sorted_more, sorted_done, sorted_held}
use Rattle.variable_changes.proofs.putting.sorted.Goals as goal

pub loop-at-preserved : goal.loop-at-preserved
loop-at-preserved g c =
    let held = g.S.TermStore.held c.args.store.now in
    let tree = g.S.TermStore.tree c.args.store.now in
    let id = c.index-ids-at.result in
    let id_held = subst held (sym c.index-ids-at.is) (c.requires c.loop-at.at id c.loop-at-test.true) in
    let push = c.in_ok-push_if.ensures in
    record {
      held = sorted_held held c.is_wanted.result c.loop-at.made.items c.push_if.new.items.items id push c.loop-at.invariant.held id_held;
      sorted = sorted_more tree c.args.literals c.args.ids.now c.loop-at.at id c.is_wanted.result c.loop-at.made.items c.push_if.new.items.items c.loop-at-test.true c.index-ids-at.is c.is_wanted.ensures push c.loop-at.invariant.sorted;
    }

pub returns-clause-sorted : goal.returns-clause-sorted
returns-clause-sorted g c =
    let tree = g.S.TermStore.tree c.args.store.now in
    sorted_done tree c.args.literals c.args.ids.now c.loop-at.at (map tree c.loop-at.made.items) c.loop-at-test.false c.loop-at.invariant.sorted
