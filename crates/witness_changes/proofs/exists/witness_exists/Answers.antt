use Rattle.std.proofs.Common.{map, subst, take, drop, ◌+◌, ◌++◌, ◌∙◌, ap, get_or, Some, None}
use Rattle.qed_terms.specs.View.{view_setting}
use Rattle.qed_rules.specs.Rules.{step}
use Rattle.qed_simplify.specs.Normal.{Normal}
use Rattle.branches.specs.Firsts.{IsFirst}
use Rattle.branches.specs.Branch.{IsExists}
use Rattle.branches.specs.Ids.{branch_of}
use Rattle.branch_changes.specs.Changes.{AreWitnessed}
use Rattle.changed_branches.proofs.Made.{first_id, replaced, replaced_held, no_replaced}
use Rattle.witness_changes.proofs.Witnessed.{among_first}
use Rattle.witness_changes.proofs.exists.witness_exists.Goals as goal

pub witnessed-requires-clause-waits : goal.witnessed-requires-clause-waits
witnessed-requires-clause-waits g c =
    let tree = g.S.TermStore.tree c.args.store.now in
    let ids = c.args.branch.now.waiting in
    let id = c.index-as_slice-at.result in
    let first = subst (λ z. IsFirst IsExists (map tree z) (Some c.in-Some.at)) c.as_slice.ensures c.in-Some.ensures in
    let is = c.index-as_slice-at.is ∙ ap (λ z. get_or z c.in-Some.at id) c.as_slice-in-Some.ensures in
    among_first IsExists (map tree ids) _ (tree id) _ (first_id tree IsExists ids c.in-Some.at id first is)

pub witnessed-requires-clause-exists : goal.witnessed-requires-clause-exists
witnessed-requires-clause-exists g c =
    let tree = g.S.TermStore.tree c.args.store.now in
    let ids = c.args.branch.now.waiting in
    let id = c.index-as_slice-at.result in
    let first = subst (λ z. IsFirst IsExists (map tree z) (Some c.in-Some.at)) c.as_slice.ensures c.in-Some.ensures in
    let is = c.index-as_slice-at.is ∙ ap (λ z. get_or z c.in-Some.at id) c.as_slice-in-Some.ensures in
    (first_id tree IsExists ids c.in-Some.at id first is).here

pub returns-in-None-clause-tried : goal.returns-in-None-clause-tried
returns-in-None-clause-tried g c =
    let tree = g.S.TermStore.tree c.args.store.now in
    let b = c.args.branch.now in
    no_replaced tree IsExists (AreWitnessed (Normal (step (view_setting c.args.world.now))) (branch_of tree b)) b (subst (λ z. IsFirst IsExists (map tree z) None) c.as_slice.ensures c.in-None.ensures)

pub returns-in_ok-made-in-Some-clause-held : goal.returns-in_ok-made-in-Some-clause-held
returns-in_ok-made-in-Some-clause-held g c =
    let s = c.args.store.now in
    let s' = c.witnessed.new.store in
    let made = c.in_ok-made-in-Some in
    let parts = c.in_ok-parts-in-Some in
    replaced_held (g.S.TermStore.held s) (g.S.TermStore.held s') (g.S.TermStore.tree s) (g.S.TermStore.tree s') parts.ensures.older c.args.branch.now made.made c.in-Some.at parts.parts.items
    c.requires.held parts.ensures.held made.ensures.literals (made.ensures.waiting ∙ ap (λ z. take c.in-Some.at c.args.branch.now.waiting ++ (z ++ drop (c.in-Some.at + 1) c.args.branch.now.waiting)) c.as_slice-in-Some-2.ensures.value)

pub returns-in_ok-made-in-Some-clause-tried : goal.returns-in_ok-made-in-Some-clause-tried
returns-in_ok-made-in-Some-clause-tried g c =
    let s = c.args.store.now in
    let s' = c.witnessed.new.store in
    let tree = g.S.TermStore.tree s in
    let b = c.args.branch.now in
    let made = c.in_ok-made-in-Some in
    let parts = c.in_ok-parts-in-Some in
    let at = c.in-Some.at in
    let id = c.index-as_slice-at.result in
    let first = subst (λ z. IsFirst IsExists (map tree z) (Some at)) c.as_slice.ensures c.in-Some.ensures in
    let is = c.index-as_slice-at.is ∙ ap (λ z. get_or z at id) c.as_slice-in-Some.ensures in
    replaced (g.S.TermStore.held s) (g.S.TermStore.held s') tree (g.S.TermStore.tree s') parts.ensures.older b made.made at parts.parts.items IsExists (AreWitnessed (Normal (step (view_setting c.args.world.now))) (branch_of tree b)) id
    c.requires.held first is parts.ensures.are made.ensures.literals (made.ensures.waiting ∙ ap (λ z. take at b.waiting ++ (z ++ drop (at + 1) b.waiting)) c.as_slice-in-Some-2.ensures.value)
