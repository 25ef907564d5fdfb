use Rattle.std.proofs.Common.{rules, ◌≡◌, ◌<◌, true, length, get_or, sym, subst, ap, ◌∙◌, arith}
use Rattle.std.specs.Prelude.{pos}
use Rattle.qed_terms.specs.Tree.{num, equal}
use Rattle.term_rests.specs.Rests.{is_equality}
use Rattle.term_forms.specs.Forms.{tree_of, count_of}
use Rattle.term_rests.proofs.Shapes.{equality_there, item_is}
use Rattle.term_rests.proofs.literals.equation.Goals as goal

pub returns : goal.returns
returns c =
    let tree = tree_of c.args.table.now in
    let ks = c.node_at-node.result.now.kids.items in
    let two : length ks ≡ 2 = search rules in
    let first : c.index-2.result.now ≡ get_or ks 0 0 = item_is ks 0 c.index-2.result.now (omega (arith, two)) c.index-2.ensures in
    let second : c.index.result.now ≡ get_or ks 1 0 = item_is ks 1 c.index.result.now (omega (arith, two)) c.index.ensures in
    let eq : is_equality c.node_at-node.result.now.head ≡ true = sym c.is_equality.ensures ∙ c.if-not-is_equality.false in
    let nothing : tree (get_or ks 1 0) ≡ num (pos 0) = ap tree (sym second) ∙ c.if-not-is_nothing.ensures in
    (subst (λ z. z < count_of c.args.table.now) (sym first) (c.node_at-node.ensures.below 0 0 (omega (arith, two))), equality_there tree ks (tree c.args.literal) c.node_at-node.result.now.head c.node_at-node.ensures.head c.node_at-node.ensures.kids eq two nothing ∙ ap (λ z. equal (tree z) (num (pos 0))) (sym first))
