use Rattle.std.proofs.Common.{◌≡◌, true, false, ◌&&◌, map, sym, ◌∙◌, ap}
use Rattle.std.specs.List.{list_all}
use Rattle.branch_changes.specs.Givens.{may_put}
use Rattle.branch_changes.specs.Ids.{given_of}
use Rattle.variable_changes.proofs.everywhere.can_put.Goals as goal

pub returns-then-not-may-clause-may : goal.returns-then-not-may-clause-may
returns-then-not-may-clause-may g c =
    let tree = g.S.TermStore.tree c.args.store.now in
    let all = list_all (may_put (given_of tree c.args.given.now)) in
    let none : all (map tree c.args.branch.now.literals) ≡ false = ap (λ z. all (map tree z)) (sym c.as_slice.ensures) ∙ sym c.in_ok-may.ensures.may ∙ c.if-not-may.true in
    sym (ap (λ b. b && all (map tree c.args.branch.now.waiting)) none)

pub returns-clause-may : goal.returns-clause-may
returns-clause-may g c =
    let tree = g.S.TermStore.tree c.args.store.now in
    let all = list_all (may_put (given_of tree c.args.given.now)) in
    let some : all (map tree c.args.branch.now.literals) ≡ true = ap (λ z. all (map tree z)) (sym c.as_slice.ensures) ∙ sym c.in_ok-may.ensures.may ∙ c.if-not-may.false in
    c.in_ok-rest.ensures.may ∙ ap (λ z. all (map tree z)) c.as_slice-2.ensures ∙ sym (ap (λ b. b && all (map tree c.args.branch.now.waiting)) some)
