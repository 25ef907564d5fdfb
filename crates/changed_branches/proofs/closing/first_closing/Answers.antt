use Rattle.std.proofs.Common.{subst}
use Rattle.std.specs.Bool.{MatchBool}
use Rattle.branches.specs.Ids.{branch_of}
use Rattle.branch_changes.specs.Changes.{WouldClose}
use Rattle.changed_branches.proofs.Firsts.{one_more}
use Rattle.changed_branches.proofs.closing.first_closing.Goals as goal

pub loop-at-preserved : goal.loop-at-preserved
loop-at-preserved g c =
    let tree = g.S.TermStore.tree c.args.store.now in
    let closes = WouldClose g.R.ChangeRules.closed (branch_of tree c.args.branch.now) in
    let id = c.index-ids-at.result in
    let never = subst (λ z. MatchBool z (closes (tree id)) (closes (tree id) → ⊥)) c.if-closes.false c.in_ok-closes.ensures.told in
    record {
      ready = c.in_ok-closes.ensures.ready;
      none = one_more tree closes c.args.ids.now c.loop-at.at id c.loop-at.invariant.none c.loop-at-test.true c.index-ids-at.is never;
    }
