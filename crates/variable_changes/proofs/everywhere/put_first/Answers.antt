use Rattle.std.proofs.Common.{[], sym, ◌∙◌, ap}
use Rattle.std.specs.Prelude.{option_map}
use Rattle.branches.specs.Ids.{branch_of}
use Rattle.branch_changes.specs.Givens.{first_put, with_given}
use Rattle.branch_changes.specs.Ids.{given_of}
use Rattle.variable_changes.proofs.Firsts.{put_here, put_nowhere}
use Rattle.variable_changes.proofs.everywhere.put_first.Goals as goal

pub returns-then-not-can-clause-first : goal.returns-then-not-can-clause-first
returns-then-not-can-clause-first g c =
    let tree = g.S.TermStore.tree c.args.store.now in
    let b = branch_of tree c.args.branch.now in
    put_nowhere b (given_of tree c.in-Some.given) (sym c.in_ok-can-in-Some.ensures.may ∙ c.if-not-can.true) ∙ ap (λ o. first_put b (with_given (option_map (given_of tree) o) [])) (sym c.in-Some.is)

pub returns-else-not-can-clause-first : goal.returns-else-not-can-clause-first
returns-else-not-can-clause-first g c =
    let tree = g.S.TermStore.tree c.args.store.now in
    let b = branch_of tree c.args.branch.now in
    put_here b (given_of tree c.in-Some.given) (sym c.in_ok-can-in-Some.ensures.may ∙ c.if-not-can.false) ∙ ap (λ o. first_put b (with_given (option_map (given_of tree) o) [])) (sym c.in-Some.is)
