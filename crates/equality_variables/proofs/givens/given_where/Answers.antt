use Rattle.std.proofs.Common.{sym, subst, ◌∙◌, ap}
use Rattle.branch_changes.specs.Givens.{given, is_apart, may_stand_for}
use Rattle.equality_variables.proofs.Apart.{not_apart, apart, apart_stands}
use Rattle.equality_variables.proofs.givens.given_where.Goals as goal

pub returns-then-not-is_apart-clause-given : goal.returns-then-not-is_apart-clause-given
returns-then-not-is_apart-clause-given g c = not_apart c.args.sort c.args.name (g.S.TermStore.tree c.args.store.now c.args.term) c.is_apart.result (c.is_apart.ensures ∙ ap (λ x. is_apart c.args.sort x (g.S.TermStore.tree c.args.store.now c.args.term)) c.bytes.ensures) c.if-not-is_apart.true

pub returns-clause-given : goal.returns-clause-given
returns-clause-given g c =
    let tree = g.S.TermStore.tree c.args.store.now in
    let made = c.given_with in
    apart c.args.sort c.args.name (tree c.args.term) c.is_apart.result (c.is_apart.ensures ∙ ap (λ x. is_apart c.args.sort x (g.S.TermStore.tree c.args.store.now c.args.term)) c.bytes.ensures) c.if-not-is_apart.false _ (λ i. given (made.ensures.name i) (made.ensures.sort i) (tree (made.ensures.term i)))

pub returns-clause-held : goal.returns-clause-held
returns-clause-held g c =
    let tree = g.S.TermStore.tree c.args.store.now in
    let made = c.given_with in
    (subst (g.S.TermStore.held c.args.store.now) (sym made.ensures.term) c.requires, (λ i. may_stand_for (made.ensures.sort i) (tree (made.ensures.term i))) ∙ apart_stands c.args.sort c.args.name (tree c.args.term) c.is_apart.result (c.is_apart.ensures ∙ ap (λ x. is_apart c.args.sort x (g.S.TermStore.tree c.args.store.now c.args.term)) c.bytes.ensures) c.if-not-is_apart.false)
