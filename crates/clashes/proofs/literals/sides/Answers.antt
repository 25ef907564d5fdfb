use Rattle.std.proofs.Common.{rules, ◌≡◌, ◌<◌, length, get_or, sym, subst, ◌∙◌, arith}
use Rattle.qed_terms.specs.Tree.{equal}
use Rattle.term_forms.specs.Forms.{tree_of, count_of}
use Rattle.clashes.proofs.Shapes.{equal_there, item_is}
use Rattle.clashes.proofs.literals.sides.Goals as goal

pub returns : goal.returns
returns c =
    let tree = tree_of c.args.table.now in
    let node = c.node_at-node.result.now in
    let ks = node.kids.items in
    let two : length ks ≡ 2 = search rules in
    let first : c.index.result.now ≡ get_or ks 0 0 = item_is ks 0 c.index.result.now (omega (arith, two)) c.index.ensures in
    let second : c.index-2.result.now ≡ get_or ks 1 0 = item_is ks 1 c.index-2.result.now (omega (arith, two)) c.index-2.ensures in (
      subst (λ z. z < count_of c.args.table.now) (sym first) (c.node_at-node.ensures.below 0 0 (omega (arith, two))),
      subst (λ z. z < count_of c.args.table.now) (sym second) (c.node_at-node.ensures.below 1 0 (omega (arith, two))),
      equal_there tree (tree c.args.formula) node.head c.node_at-node.ensures.head ks c.node_at-node.ensures.kids c.if-not-says_equal.ensures two ∙ (λ i. equal (tree (sym first i)) (tree (sym second i))),
    )
