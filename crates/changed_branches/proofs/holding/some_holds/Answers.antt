use Rattle.std.proofs.Common.{map, subst, sym, ◌∙◌, ap}
use Rattle.std.specs.Bool.{MatchBool}
use Rattle.qed_terms.specs.WellFormed.{fits, formula}
use Rattle.qed_terms.specs.View.{view_setting}
use Rattle.qed_terms.proofs.Kept.{kept_over}
use Rattle.qed_rules.specs.Rules.{step}
use Rattle.qed_simplify.specs.Normal.{Normal}
use Rattle.branches.specs.Ids.{branch_of}
use Rattle.branches.proofs.Stores.{branch_same}
use Rattle.branch_changes.specs.Changes.{Holds}
use Rattle.changed_branches.proofs.Firsts.{one_more, some_at, none_of_none, found_nowhere}
use Rattle.changed_branches.proofs.Fitting.{one_fits}
use Rattle.changed_branches.proofs.Told.{told_later}
use Rattle.changed_branches.proofs.holding.some_holds.Goals as goal

pub holds-requires-clause-formula : goal.holds-requires-clause-formula
holds-requires-clause-formula g c =
    let s = c.args.store.now in
    let tree = g.S.TermStore.tree in
    let id = c.index-ids-at.result in
    let held = subst (g.S.TermStore.held s) (sym c.index-ids-at.is) (c.requires.ids c.loop-at.at id c.loop-at-test.true) in
    ap (fits formula) (c.loop-at.invariant.older.same_tree id held) ∙ one_fits (tree s) (fits formula) c.args.ids.now c.loop-at.at id c.requires.formulas c.loop-at-test.true c.index-ids-at.is

pub loop-at-preserved : goal.loop-at-preserved
loop-at-preserved g c =
    let s = c.args.store.now in
    let s' = c.loop-at.store in
    let s'' = c.holds.new.store in
    let tree = g.S.TermStore.tree in
    let held = g.S.TermStore.held in
    let b = c.args.branch.now in
    let id = c.index-ids-at.result in
    let older = c.loop-at.invariant.older in
    let so = Holds (Normal (step (view_setting c.args.world.now))) g.R.ChangeRules.closed in
    let same = branch_same (held s) (held s') (tree s) (tree s') older b c.requires.held in
    let id_held = subst (held s) (sym c.index-ids-at.is) (c.requires.ids c.loop-at.at id c.loop-at-test.true) in
    let told = told_later so (branch_of (tree s) b) (branch_of (tree s') b) (tree s id) (tree s' id) c.in_ok-so.so same (older.same_tree id id_held) c.in_ok-so.ensures.told in
    let never = subst (λ z. MatchBool z (so (branch_of (tree s) b) (tree s id)) (so (branch_of (tree s) b) (tree s id) → ⊥)) c.if-so.false told in
    record {
      ready = c.in_ok-so.ensures.ready;
      older = kept_over (held s) (held s') (held s'') (tree s) (tree s') (tree s'') older c.in_ok-so.ensures.older;
      none = one_more (tree s) (so (branch_of (tree s) b)) c.args.ids.now c.loop-at.at id c.loop-at.invariant.none c.loop-at-test.true c.index-ids-at.is never;
    }

pub returns-then-so-clause-told : goal.returns-then-so-clause-told
returns-then-so-clause-told g c =
    let s = c.args.store.now in
    let s' = c.loop-at.store in
    let tree = g.S.TermStore.tree in
    let held = g.S.TermStore.held in
    let b = c.args.branch.now in
    let id = c.index-ids-at.result in
    let older = c.loop-at.invariant.older in
    let so = Holds (Normal (step (view_setting c.args.world.now))) g.R.ChangeRules.closed in
    let same = branch_same (held s) (held s') (tree s) (tree s') older b c.requires.held in
    let id_held = subst (held s) (sym c.index-ids-at.is) (c.requires.ids c.loop-at.at id c.loop-at-test.true) in
    let told = told_later so (branch_of (tree s) b) (branch_of (tree s') b) (tree s id) (tree s' id) c.in_ok-so.so same (older.same_tree id id_held) c.in_ok-so.ensures.told in
    let here = subst (λ z. MatchBool z (so (branch_of (tree s) b) (tree s id)) (so (branch_of (tree s) b) (tree s id) → ⊥)) c.if-so.true told in
    some_at (tree s) (so (branch_of (tree s) b)) c.args.ids.now c.loop-at.at id c.loop-at-test.true c.index-ids-at.is here

pub returns-clause-told : goal.returns-clause-told
returns-clause-told g c =
    let tree = g.S.TermStore.tree c.args.store.now in
    let so = Holds (Normal (step (view_setting c.args.world.now))) g.R.ChangeRules.closed (branch_of tree c.args.branch.now) in
    none_of_none so (map tree c.args.ids.now) (found_nowhere tree so c.args.ids.now c.loop-at.at c.loop-at.invariant.none c.loop-at-test.false)
