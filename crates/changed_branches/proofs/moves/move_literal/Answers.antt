use Rattle.std.proofs.Common.{map, subst, ◌∙◌, ap, get_or, Some, None}
use Rattle.branches.specs.Firsts.{IsFirst}
use Rattle.branches.specs.Branch.{IsLiteral}
use Rattle.changed_branches.proofs.Made.{moves_made, no_moves}
use Rattle.changed_branches.proofs.moves.move_literal.Goals as goal

pub returns-in_ok-made-in-Some-clause-tried : goal.returns-in_ok-made-in-Some-clause-tried
returns-in_ok-made-in-Some-clause-tried g c =
    let tree = g.S.TermStore.tree c.args.store.now in
    let b = c.args.branch.now in
    let at = c.in-Some.at in
    let id = c.index-as_slice-at.result in
    let first = subst (λ z. IsFirst IsLiteral (map tree z) (Some at)) c.as_slice.ensures c.in-Some.ensures in
    let is = c.index-as_slice-at.is ∙ ap (λ z. get_or z at id) c.as_slice-in-Some.ensures in
    moves_made tree b c.in_ok-made-in-Some.made at id first is c.in_ok-made-in-Some.ensures.literals c.in_ok-made-in-Some.ensures.waiting

pub returns-in-None-clause-tried : goal.returns-in-None-clause-tried
returns-in-None-clause-tried g c =
    let tree = g.S.TermStore.tree c.args.store.now in
    no_moves tree c.args.branch.now (subst (λ z. IsFirst IsLiteral (map tree z) None) c.as_slice.ensures c.in-None.ensures)
