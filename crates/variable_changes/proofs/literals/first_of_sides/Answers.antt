use Rattle.std.proofs.Common.{[], sym, ◌∙◌, ap}
use Rattle.std.specs.Prelude.{option_map}
use Rattle.branches.specs.Ids.{branch_of}
use Rattle.branch_changes.specs.Givens.{first_put, with_given, memory_given}
use Rattle.branch_changes.specs.Ids.{given_of}
use Rattle.variable_changes.proofs.Firsts.{with_first, with_none}
use Rattle.variable_changes.proofs.literals.first_of_sides.Goals as goal

pub returns-in-Some-clause-first : goal.returns-in-Some-clause-first
returns-in-Some-clause-first g c =
    let tree = g.S.TermStore.tree c.args.store.now in
    let b = branch_of tree c.args.branch.now in
    let m = tree c.args.memory in
    let n = tree c.args.other in
    with_first b (memory_given m n) (with_given (memory_given n m) []) (given_of tree c.in-Some.given) (sym (ap (option_map (given_of tree)) c.in-Some.is) ∙ c.in_ok-first.ensures.first ∙ ap (λ o. first_put b (with_given o [])) c.in_ok-given.ensures.given)

pub returns-in_ok-second-in-None-clause-first : goal.returns-in_ok-second-in-None-clause-first
returns-in_ok-second-in-None-clause-first g c =
    let tree = g.S.TermStore.tree c.args.store.now in
    let b = branch_of tree c.args.branch.now in
    let m = tree c.args.memory in
    let n = tree c.args.other in
    let none = sym (ap (option_map (given_of tree)) c.in-None.is) ∙ c.in_ok-first.ensures.first ∙ ap (λ o. first_put b (with_given o [])) c.in_ok-given.ensures.given in
    c.in_ok-second-in-None.ensures.first ∙ ap (λ o. first_put b (with_given o [])) c.in_ok-last-in-None.ensures.given ∙ sym (with_none b (memory_given m n) (with_given (memory_given n m) []) none)
