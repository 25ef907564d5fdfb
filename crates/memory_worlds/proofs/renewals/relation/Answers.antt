use Rattle.std.proofs.Common.{◌≡◌, [], ◌∷◌, ◌++◌, ap, ◌∙◌}
use Rattle.qed_terms.proofs.Equations.{formula_tree-Rel}
use Rattle.qed_terms.specs.declared.head.Head.TheVariants as head
use Rattle.qed_terms.specs.Tree.{node, trees_of}
use Rattle.qed_terms.specs.View.{term_tree}
use Rattle.memory_worlds.proofs.Pushing.{around}
use Rattle.memory_worlds.proofs.renewals.relation.Goals as goal

pub returns : goal.returns
returns c =
    let before = c.args.before.now in
    let behind = c.args.behind.now in
    let t = c.in_ok-copy.field-0 in
    let kids : c.from_vec.result ≡ (before ++ t ∷ []) ++ behind =
    c.from_vec.ensures ∙ c.in_ok-extend-2.ensures
    ∙ ap (λ xs. xs ++ behind) (c.in_ok-push.ensures.items ∙ ap (λ xs. xs ++ t ∷ []) (c.in_ok-extend.ensures ∙ ap (λ xs. xs ++ before) c.new-kids.ensures.items)) in
    formula_tree-Rel c.in_ok-op.op c.from_vec.result
    ∙ (λ i. node (head.Form (c.in_ok-op.ensures i)) (trees_of (around term_tree c.from_vec.result before behind t c.args.new.now kids c.in_ok-copy.ensures i)))
