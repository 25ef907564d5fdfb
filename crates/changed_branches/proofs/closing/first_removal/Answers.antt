use Rattle.std.proofs.Common.{subst, ◌∙◌, ap, get_or, length, ◌<◌}
use Rattle.branches.specs.Ids.{branch_of}
use Rattle.branch_changes.specs.Changes.{HasFalse}
use Rattle.changed_branches.specs.Found.{IsFirstFalse}
use Rattle.changed_branches.proofs.Firsts.{one_more}
use Rattle.changed_branches.proofs.closing.first_removal.Goals as goal

pub loop-at-preserved : goal.loop-at-preserved
loop-at-preserved g c =
    let tree = g.S.TermStore.tree c.args.store.now in
    let b = c.args.branch.now in
    let closed = g.R.ChangeRules.closed in
    let id = c.index-waiting-at.result in
    let at = c.loop-at.at in
    let never = subst (IsFirstFalse closed (branch_of tree b) (tree id)) c.in-None.is c.in_ok-found.ensures.first in
    let below = subst (λ z. at < length z) c.as_slice-waiting.ensures c.loop-at-test.true in
    let is = c.index-waiting-at.is ∙ ap (λ z. get_or z at id) c.as_slice-waiting.ensures in
    record {
      ready = c.in_ok-found.ensures.ready;
      none = one_more tree (HasFalse closed (branch_of tree b)) b.waiting at id c.loop-at.invariant.none below is never;
    }
