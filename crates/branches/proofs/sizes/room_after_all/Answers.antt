use Rattle.std.proofs.Common.{sym, ◌∙◌}
use Rattle.branches.proofs.Places.{room_on, room_off}
use Rattle.branches.proofs.sizes.room_after_all.Goals as goal

pub returns-in-None : goal.returns-in-None
returns-in-None g c =
    room_off (g.S.TermStore.tree c.args.store.now) c.args.ids.now _ c.loop-at.left c.loop-at.at c.index-ids-at.result c.loop-at-test.true c.index-ids-at.is (sym c.in-None.is ∙ c.room_after.ensures) c.loop-at.invariant

pub loop-at-preserved : goal.loop-at-preserved
loop-at-preserved g c =
    room_on (g.S.TermStore.tree c.args.store.now) c.args.ids.now _ c.loop-at.left c.loop-at.at c.in-Some.rest c.index-ids-at.result c.loop-at-test.true c.index-ids-at.is (sym c.in-Some.is ∙ c.room_after.ensures) c.loop-at.invariant
