use Rattle.std.proofs.Common.{[], map, refl, ◌∙◌, ap, subst, take, drop, ◌+◌, ◌++◌}
use Rattle.qed_terms.specs.View.{view_setting}
use Rattle.qed_rules.specs.Rules.{step}
use Rattle.qed_simplify.specs.Normal.{Normal}
use Rattle.branches.specs.Firsts.{IsFirst}
use Rattle.branches.specs.Ids.{branch_of}
use Rattle.branch_changes.specs.Changes.{HasTrue, AreNone}
use Rattle.changed_branches.proofs.Made.{replaced_at, no_replaced}
use Rattle.changed_branches.proofs.holding.drop_or.Goals as goal

pub returns-in-None-clause-tried : goal.returns-in-None-clause-tried
returns-in-None-clause-tried g c =
    let tree = g.S.TermStore.tree c.args.store.now in
    let b = c.args.branch.now in
    let so = HasTrue (Normal (step (view_setting c.args.world.now))) g.R.ChangeRules.closed (branch_of tree b) in
    no_replaced tree so AreNone b (subst (IsFirst so (map tree b.waiting)) c.in-None.is c.in_ok-found.ensures.first)

pub returns-in_ok-made-in-Some-clause-tried : goal.returns-in_ok-made-in-Some-clause-tried
returns-in_ok-made-in-Some-clause-tried g c =
    let s = c.args.store.now in
    let s' = c.first_true.new.store in
    let tree = g.S.TermStore.tree s in
    let b = c.args.branch.now in
    let so = HasTrue (Normal (step (view_setting c.args.world.now))) g.R.ChangeRules.closed (branch_of tree b) in
    let at = c.in-Some.at in
    let first = subst (IsFirst so (map tree b.waiting)) c.in-Some.is c.in_ok-found.ensures.first in
    let none = c.as_slice.ensures.value ∙ c.new-none.ensures.items in
    let waiting = c.in_ok-made-in-Some.ensures.waiting ∙ ap (λ z. take at b.waiting ++ (z ++ drop (at + 1) b.waiting)) none in
    replaced_at (g.S.TermStore.held s) (g.S.TermStore.held s') tree (g.S.TermStore.tree s') c.in_ok-found.ensures.older b c.in_ok-made-in-Some.made at [] so AreNone
    c.requires.held first (λ f. refl) c.in_ok-made-in-Some.ensures.literals waiting
