use Rattle.std.proofs.Common.{sym, ◌∙◌, ap}
use Rattle.branches.specs.Ids.{branch_of}
use Rattle.branch_changes.specs.Givens.{first_put}
use Rattle.variable_changes.specs.Found.{is_equality, is_sameness}
use Rattle.variable_changes.proofs.Equations.{equality_kids, sameness_kids, equality_gives, sameness_gives, others_give_none}
use Rattle.variable_changes.proofs.literals.first_given.Goals as goal

pub two_kids-kids-requires-clause-two : goal.two_kids-kids-requires-clause-two
two_kids-kids-requires-clause-two g c =
    let s = c.args.store.now in
    let t = g.S.TermStore.tree s c.args.id in
    equality_kids t (ap is_equality (sym c.head.ensures) ∙ sym c.is_equality.ensures ∙ c.if-is_equality.true) (g.met.S.TermStore.well_formed s c.args.id c.requires.id)

pub two_kids-sides-requires-clause-two : goal.two_kids-sides-requires-clause-two
two_kids-sides-requires-clause-two g c =
    let s = c.args.store.now in
    let t = g.S.TermStore.tree s c.args.id in
    sameness_kids t (ap is_sameness (sym c.head-2.ensures) ∙ sym c.is_sameness.ensures ∙ c.if-is_sameness.true) (g.met.S.TermStore.well_formed s c.args.id c.requires.id)

pub returns-then-is_equality-clause-first : goal.returns-then-is_equality-clause-first
returns-then-is_equality-clause-first g c =
    let tree = g.S.TermStore.tree c.args.store.now in
    let equality = ap is_equality (sym c.head.ensures) ∙ sym c.is_equality.ensures ∙ c.if-is_equality.true in
    c.in_ok-first.ensures.first ∙ ap (first_put (branch_of tree c.args.branch.now)) (sym (equality_gives (tree c.args.id) _ _ equality c.two_kids-kids.ensures.kids))

pub returns-then-is_sameness-clause-first : goal.returns-then-is_sameness-clause-first
returns-then-is_sameness-clause-first g c =
    let tree = g.S.TermStore.tree c.args.store.now in
    let sameness = ap is_sameness (sym c.head-2.ensures) ∙ sym c.is_sameness.ensures ∙ c.if-is_sameness.true in
    c.in_ok-second.ensures.first ∙ ap (first_put (branch_of tree c.args.branch.now)) (sym (sameness_gives (tree c.args.id) _ _ sameness c.two_kids-sides.ensures.kids))

pub returns-clause-first : goal.returns-clause-first
returns-clause-first g c =
    let tree = g.S.TermStore.tree c.args.store.now in
    let equality = ap is_equality (sym c.head.ensures) ∙ sym c.is_equality.ensures ∙ c.if-is_equality.false in
    let sameness = ap is_sameness (sym c.head-2.ensures) ∙ sym c.is_sameness.ensures ∙ c.if-is_sameness.false in
    sym (ap (first_put (branch_of tree c.args.branch.now)) (others_give_none (tree c.args.id) equality sameness))
