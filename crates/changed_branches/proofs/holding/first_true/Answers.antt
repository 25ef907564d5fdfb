use Rattle.std.proofs.Common.{subst, sym, ◌∙◌, ap, get_or, length, ◌<◌}
use Rattle.std.specs.Bool.{MatchBool}
use Rattle.qed_terms.specs.View.{view_setting}
use Rattle.qed_terms.proofs.Kept.{kept_over}
use Rattle.qed_rules.specs.Rules.{step}
use Rattle.qed_simplify.specs.Normal.{Normal}
use Rattle.branches.specs.Ids.{branch_of}
use Rattle.branches.proofs.Stores.{branch_same}
use Rattle.branch_changes.specs.Changes.{HasTrue}
use Rattle.changed_branches.proofs.Firsts.{one_more, found_here}
use Rattle.changed_branches.proofs.Told.{told_later}
use Rattle.changed_branches.proofs.holding.first_true.Goals as goal

pub loop-at-preserved : goal.loop-at-preserved
loop-at-preserved g c =
    let s = c.args.store.now in
    let s' = c.loop-at.store in
    let s'' = c.has_true.new.store in
    let tree = g.S.TermStore.tree in
    let held = g.S.TermStore.held in
    let b = c.args.branch.now in
    let id = c.index-waiting-at.result in
    let at = c.loop-at.at in
    let older = c.loop-at.invariant.older in
    let so = HasTrue (Normal (step (view_setting c.args.world.now))) g.R.ChangeRules.closed in
    let same = branch_same (held s) (held s') (tree s) (tree s') older b c.requires.held in
    let below = subst (λ z. at < length z) c.as_slice-waiting.ensures c.loop-at-test.true in
    let is = c.index-waiting-at.is ∙ ap (λ z. get_or z at id) c.as_slice-waiting.ensures in
    let id_held = subst (held s) (sym is) (c.requires.held.1 at id below) in
    let told = told_later so (branch_of (tree s) b) (branch_of (tree s') b) (tree s id) (tree s' id) c.in_ok-so.so same (older.same_tree id id_held) c.in_ok-so.ensures.told in
    let never = subst (λ z. MatchBool z (so (branch_of (tree s) b) (tree s id)) (so (branch_of (tree s) b) (tree s id) → ⊥)) c.if-so.false told in
    record {
      ready = c.in_ok-so.ensures.ready;
      older = kept_over (held s) (held s') (held s'') (tree s) (tree s') (tree s'') older c.in_ok-so.ensures.older;
      none = one_more (tree s) (so (branch_of (tree s) b)) b.waiting at id c.loop-at.invariant.none below is never;
    }

pub returns-then-so-clause-first : goal.returns-then-so-clause-first
returns-then-so-clause-first g c =
    let s = c.args.store.now in
    let s' = c.loop-at.store in
    let tree = g.S.TermStore.tree in
    let held = g.S.TermStore.held in
    let b = c.args.branch.now in
    let id = c.index-waiting-at.result in
    let at = c.loop-at.at in
    let older = c.loop-at.invariant.older in
    let so = HasTrue (Normal (step (view_setting c.args.world.now))) g.R.ChangeRules.closed in
    let same = branch_same (held s) (held s') (tree s) (tree s') older b c.requires.held in
    let below = subst (λ z. at < length z) c.as_slice-waiting.ensures c.loop-at-test.true in
    let is = c.index-waiting-at.is ∙ ap (λ z. get_or z at id) c.as_slice-waiting.ensures in
    let id_held = subst (held s) (sym is) (c.requires.held.1 at id below) in
    let told = told_later so (branch_of (tree s) b) (branch_of (tree s') b) (tree s id) (tree s' id) c.in_ok-so.so same (older.same_tree id id_held) c.in_ok-so.ensures.told in
    let here = subst (λ z. MatchBool z (so (branch_of (tree s) b) (tree s id)) (so (branch_of (tree s) b) (tree s id) → ⊥)) c.if-so.true told in
    found_here (tree s) (so (branch_of (tree s) b)) b.waiting at id c.loop-at.invariant.none below is here
