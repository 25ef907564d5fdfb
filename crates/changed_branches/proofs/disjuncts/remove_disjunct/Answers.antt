use Rattle.std.proofs.Common.{[], ◌∷◌, subst, ◌∙◌, ap, get_or}
use Rattle.branches.specs.Ids.{branch_of}
use Rattle.branch_changes.specs.Changes.{HasFalse, IsLessOne}
use Rattle.changed_branches.specs.Found.{IsFirstRemoval}
use Rattle.changed_branches.proofs.Made.{replaced, replaced_held, held_alone, no_replaced}
use Rattle.changed_branches.proofs.Removed.{removal_here, first_with_false, less_one}
use Rattle.changed_branches.proofs.disjuncts.remove_disjunct.Goals as goal

pub left_of_or-requires-clause-or : goal.left_of_or-requires-clause-or
left_of_or-requires-clause-or g c =
    let tree = g.S.TermStore.tree c.args.store.now in
    let b = c.args.branch.now in
    let closed = g.R.ChangeRules.closed in
    let id = c.index-as_slice-removal.result in
    let r = c.in-Some.removal in
    let first = subst (IsFirstRemoval closed (branch_of tree b)) c.in-Some.is c.in_ok-removal.ensures.first in
    let is = c.index-as_slice-removal.is ∙ ap (λ z. get_or z r.at id) c.as_slice.ensures in
    (removal_here closed tree b r id first is).0

pub left_of_or-requires-clause-within : goal.left_of_or-requires-clause-within
left_of_or-requires-clause-within g c =
    let tree = g.S.TermStore.tree c.args.store.now in
    let b = c.args.branch.now in
    let closed = g.R.ChangeRules.closed in
    let id = c.index-as_slice-removal.result in
    let r = c.in-Some.removal in
    let first = subst (IsFirstRemoval closed (branch_of tree b)) c.in-Some.is c.in_ok-removal.ensures.first in
    let is = c.index-as_slice-removal.is ∙ ap (λ z. get_or z r.at id) c.as_slice.ensures in
    let here = removal_here closed tree b r id first is in
    here.1.0

pub returns-in-None-clause-tried : goal.returns-in-None-clause-tried
returns-in-None-clause-tried g c =
    let tree = g.S.TermStore.tree c.args.store.now in
    let b = c.args.branch.now in
    let closed = g.R.ChangeRules.closed in
    no_replaced tree (HasFalse closed (branch_of tree b)) (IsLessOne closed (branch_of tree b)) b (subst (IsFirstRemoval closed (branch_of tree b)) c.in-None.is c.in_ok-removal.ensures.first)

pub returns-in_ok-made-in-Some-clause-held : goal.returns-in_ok-made-in-Some-clause-held
returns-in_ok-made-in-Some-clause-held g c =
    let s = c.args.store.now in
    let s' = c.left_of_or.new.store in
    let left = c.in_ok-left-in-Some.left in
    let held' = g.S.TermStore.held s' in
    replaced_held (g.S.TermStore.held s) held' (g.S.TermStore.tree s) (g.S.TermStore.tree s') c.in_ok-left-in-Some.ensures.older c.args.branch.now c.in_ok-made-in-Some.made c.in-Some.removal.at (left ∷ [])
    c.requires.held (held_alone held' left c.in_ok-left-in-Some.ensures.held) c.in_ok-made-in-Some.ensures.literals c.in_ok-made-in-Some.ensures.waiting

pub returns-in_ok-made-in-Some-clause-tried : goal.returns-in_ok-made-in-Some-clause-tried
returns-in_ok-made-in-Some-clause-tried g c =
    let s = c.args.store.now in
    let s' = c.left_of_or.new.store in
    let tree = g.S.TermStore.tree s in
    let b = c.args.branch.now in
    let closed = g.R.ChangeRules.closed in
    let id = c.index-as_slice-removal.result in
    let r = c.in-Some.removal in
    let left = c.in_ok-left-in-Some.left in
    let first = subst (IsFirstRemoval closed (branch_of tree b)) c.in-Some.is c.in_ok-removal.ensures.first in
    let is = c.index-as_slice-removal.is ∙ ap (λ z. get_or z r.at id) c.as_slice.ensures in
    let here = removal_here closed tree b r id first is in
    replaced (g.S.TermStore.held s) (g.S.TermStore.held s') tree (g.S.TermStore.tree s') c.in_ok-left-in-Some.ensures.older b c.in_ok-made-in-Some.made r.at (left ∷ []) (HasFalse closed (branch_of tree b)) (IsLessOne closed (branch_of tree b)) id
    c.requires.held (first_with_false closed tree b r first) is (less_one closed (branch_of tree b) (tree id) r.disjunct (g.S.TermStore.tree s' left) here c.in_ok-left-in-Some.ensures.left) c.in_ok-made-in-Some.ensures.literals c.in_ok-made-in-Some.ensures.waiting
