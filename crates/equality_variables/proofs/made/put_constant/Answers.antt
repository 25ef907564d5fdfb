use Rattle.std.proofs.Common.{map, ◌∙◌, ap}
use Rattle.std.specs.Prelude.{pos}
use Rattle.std.specs.Int.{w128}
use Rattle.std.specs.Ordering.{int_eq}
use Rattle.std.proofs.lemmas.Int.{to_z-of_z}
use Rattle.qed_terms.specs.Tree.{num}
use Rattle.equality_variables.proofs.Sums.{told_equal, told_apart, number_fits, no_constant, terms_more, with_constant}
use Rattle.equality_variables.proofs.made.put_constant.Goals as goal

pub returns-then-are_equal-clause-trees : goal.returns-then-are_equal-clause-trees
returns-then-are_equal-clause-trees g c =
    no_constant (map (g.S.TermStore.tree c.args.store.now) c.args.terms.now.items) c.args.constant (told_equal c.args.constant (pos 0) c.are_equal.result (c.are_equal.ensures ∙ ap (λ z. int_eq z (pos 0)) (to_z-of_z w128 c.args.constant c.ranges.constant)) c.if-are_equal.true)

pub returns-clause-terms : goal.returns-clause-terms
returns-clause-terms g c =
    let s = c.args.store.now in
    let s' = c.number_term.new.store in
    let tree' = g.S.TermStore.tree s' in
    let id = c.in_ok-id.id in
    terms_more (g.S.TermStore.held s) (g.S.TermStore.held s') (g.S.TermStore.tree s) tree' c.in_ok-id.ensures.older c.args.terms.now.items c.requires id c.push.new.self.items c.in_ok-push.ensures.items c.in_ok-id.ensures.held (number_fits _ (tree' id) c.in_ok-id.ensures.tree)

pub returns-clause-trees : goal.returns-clause-trees
returns-clause-trees g c =
    let s = c.args.store.now in
    let s' = c.number_term.new.store in
    let same = to_z-of_z w128 c.args.constant c.ranges.constant in
    let apart = told_apart c.args.constant (pos 0) c.are_equal.result (c.are_equal.ensures ∙ ap (λ z. int_eq z (pos 0)) same) c.if-are_equal.false in
    with_constant (g.S.TermStore.held s) (g.S.TermStore.held s') (g.S.TermStore.tree s) (g.S.TermStore.tree s') c.in_ok-id.ensures.older c.args.terms.now.items c.requires c.in_ok-id.id c.push.new.self.items c.in_ok-push.ensures.items c.args.constant apart (c.in_ok-id.ensures.tree ∙ ap num same)
