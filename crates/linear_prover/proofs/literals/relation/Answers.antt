use Rattle.std.proofs.Common.{rules, ◌≡◌, ◌<◌, Some, length, get_or, sym, subst, ap, ◌∙◌, arith}
use Rattle.std.specs.Prelude.{pos}
use Rattle.qed_terms.specs.Tree.{num}
use Rattle.term_forms.specs.Forms.{tree_of, count_of}
use Rattle.term_rests.proofs.Shapes.{item_is}
use Rattle.linear_prover.specs.Relations.{related, relation_head}
use Rattle.linear_prover.proofs.Relating.{related_there}
use Rattle.linear_prover.proofs.literals.relation.Goals as goal

pub returns : goal.returns
returns c =
    let tree = tree_of c.args.table.now in
    let ks = c.node_at-node.result.now.kids.items in
    let head = c.node_at-node.result.now.head in
    let b = c.in-Some.is_equality in
    let two : length ks ≡ 2 = search rules in
    let first : c.index-2.result.now ≡ get_or ks 0 0 = item_is ks 0 c.index-2.result.now (omega (arith, two)) c.index-2.ensures in
    let second : c.index.result.now ≡ get_or ks 1 0 = item_is ks 1 c.index.result.now (omega (arith, two)) c.index.ensures in
    let is : relation_head head ≡ Some b = sym c.relation_head.ensures ∙ c.in-Some.is in
    let nothing : tree (get_or ks 1 0) ≡ num (pos 0) = ap tree (sym second) ∙ c.if-not-is_nothing.ensures in
    (subst (λ z. z < count_of c.args.table.now) (sym first) (c.node_at-node.ensures.below 0 0 (omega (arith, two))), related_there tree ks (tree c.args.literal) head b c.node_at-node.ensures.head c.node_at-node.ensures.kids is two nothing ∙ ap (λ z. related b (tree z)) (sym first))
