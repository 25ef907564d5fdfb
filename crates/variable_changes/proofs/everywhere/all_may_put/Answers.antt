use Rattle.std.proofs.Common.{sym, ◌∙◌}
use Rattle.branch_changes.specs.Givens.{may_put}
use Rattle.branch_changes.specs.Ids.{given_of}
use Rattle.variable_changes.proofs.Firsts.{all_later, not_here, all_done}
use Rattle.variable_changes.proofs.everywhere.all_may_put.Goals as goal

pub loop-at-preserved : goal.loop-at-preserved
loop-at-preserved g c =
    let tree = g.S.TermStore.tree c.args.store.now in
    record {
      ready = c.in_ok-may.ensures.ready;
      all = all_later tree (may_put (given_of tree c.args.given.now)) c.args.ids.now c.loop-at.at _ c.index-ids-at.result c.loop-at-test.true c.index-ids-at.is (sym c.in_ok-may.ensures.may ∙ c.if-not-may.false) c.loop-at.invariant.all;
    }

pub returns-then-not-may-clause-may : goal.returns-then-not-may-clause-may
returns-then-not-may-clause-may g c =
    let tree = g.S.TermStore.tree c.args.store.now in
    not_here tree (may_put (given_of tree c.args.given.now)) c.args.ids.now c.loop-at.at _ c.index-ids-at.result c.loop-at-test.true c.index-ids-at.is (sym c.in_ok-may.ensures.may ∙ c.if-not-may.true) c.loop-at.invariant.all

pub returns-clause-may : goal.returns-clause-may
returns-clause-may g c =
    let tree = g.S.TermStore.tree c.args.store.now in
    all_done tree (may_put (given_of tree c.args.given.now)) c.args.ids.now c.loop-at.at _ c.loop-at-test.false c.loop-at.invariant.all
