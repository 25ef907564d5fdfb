use Rattle.std.proofs.Common.{rules, All, subst}
use Rattle.std.proofs.lemmas.List.Elements.{All-head, All-rest, All-same}
use Rattle.test_prover.proofs.closing.closed_both.Goals as goal

pub would_close-requires-clause-held : goal.would_close-requires-clause-held
would_close-requires-clause-held g c =
    let held = g.S.TermStore.held c.args.store.now in
    let first = c.in-Some.first.now in
    let others = c.in-Some.others.now in
    let rest : All held others = All-rest held first others c.args.literals.now c.in-Some.ensures.cases.0 c.requires in
    let waiting : All held c.in_ok-branch.branch.waiting = search rules in
    (All-same held c.in_ok-branch.branch.literals others c.in_ok-branch.ensures.literals rest, waiting)

pub would_close-requires-clause-literal : goal.would_close-requires-clause-literal
would_close-requires-clause-literal g c =
    let held = g.S.TermStore.held c.args.store.now in
    let first = c.in-Some.first.now in
    let others = c.in-Some.others.now in
    All-head held first others (subst (All held) c.in-Some.ensures.cases.0 c.requires)
