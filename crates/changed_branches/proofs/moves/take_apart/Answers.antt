use Rattle.std.proofs.Common.{map, subst, ◌∙◌, ap, get_or, Some, None}
use Rattle.qed_terms.proofs.Kept.{kept_still}
use Rattle.branches.specs.Firsts.{IsFirst}
use Rattle.branches.specs.Branch.{IsAnd}
use Rattle.branch_changes.specs.Changes.{ArePartsOf}
use Rattle.changed_branches.proofs.Made.{replaced, no_replaced}
use Rattle.changed_branches.proofs.moves.take_apart.Goals as goal

pub returns-in_ok-made-in-Some-clause-tried : goal.returns-in_ok-made-in-Some-clause-tried
returns-in_ok-made-in-Some-clause-tried g c =
    let tree = g.S.TermStore.tree c.args.store.now in
    let held = g.S.TermStore.held c.args.store.now in
    let b = c.args.branch.now in
    let at = c.in-Some.at in
    let id = c.index-as_slice-at.result in
    let first = subst (λ z. IsFirst IsAnd (map tree z) (Some at)) c.as_slice.ensures c.in-Some.ensures in
    let is = c.index-as_slice-at.is ∙ ap (λ z. get_or z at id) c.as_slice-in-Some.ensures in
    replaced held held tree tree (kept_still held tree) b c.in_ok-made-in-Some.made at c.kids.result.now IsAnd ArePartsOf id c.requires first is c.kids.ensures.stand c.in_ok-made-in-Some.ensures.literals c.in_ok-made-in-Some.ensures.waiting

pub returns-in-None-clause-tried : goal.returns-in-None-clause-tried
returns-in-None-clause-tried g c =
    let tree = g.S.TermStore.tree c.args.store.now in
    no_replaced tree IsAnd ArePartsOf c.args.branch.now (subst (λ z. IsFirst IsAnd (map tree z) None) c.as_slice.ensures c.in-None.ensures)
