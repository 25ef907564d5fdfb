use Rattle.std.proofs.Common.{sym, ◌∙◌}
use Rattle.changed_branches.proofs.Naming.{name_later, name_here, name_nowhere}
use Rattle.changed_branches.proofs.names.is_among.Goals as goal

pub loop-at-preserved : goal.loop-at-preserved
loop-at-preserved g c =
    let tree = g.S.TermStore.tree c.args.store.now in
    name_later tree c.args.name.now c.args.ids.now c.loop-at.at _ c.index-ids-at.result c.loop-at-test.true c.index-ids-at.is (sym c.is_in.ensures ∙ c.if-is_in.false) c.loop-at.invariant

pub returns-then-is_in : goal.returns-then-is_in
returns-then-is_in g c =
    let tree = g.S.TermStore.tree c.args.store.now in
    name_here tree c.args.name.now c.args.ids.now c.loop-at.at _ c.index-ids-at.result c.loop-at-test.true c.index-ids-at.is (sym c.is_in.ensures ∙ c.if-is_in.true) c.loop-at.invariant

pub returns : goal.returns
returns g c =
    let tree = g.S.TermStore.tree c.args.store.now in
    name_nowhere tree c.args.name.now c.args.ids.now c.loop-at.at _ c.loop-at-test.false c.loop-at.invariant
