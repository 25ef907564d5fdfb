use Rattle.std.proofs.Common.{rules, ◌≡◌, ◌<◌, length, get_or, sym, subst, ap, ◌∙◌, arith}
use Rattle.qed_terms.specs.Tree.{not_of}
use Rattle.term_forms.specs.Forms.{tree_of, count_of}
use Rattle.clashes.proofs.Shapes.{not_there, item_is}
use Rattle.clashes.proofs.literals.negated.Goals as goal

pub returns : goal.returns
returns c =
    let tree = tree_of c.args.table.now in
    let node = c.node_at-node.result.now in
    let ks = node.kids.items in
    let one : length ks ≡ 1 = search rules in
    let first : c.index.result.now ≡ get_or ks 0 0 = item_is ks 0 c.index.result.now (omega (arith, one)) c.index.ensures in (
      subst (λ z. z < count_of c.args.table.now) (sym first) (c.node_at-node.ensures.below 0 0 (omega (arith, one))),
      not_there tree (tree c.args.literal) node.head c.node_at-node.ensures.head ks c.node_at-node.ensures.kids c.if-not-says_not.ensures one ∙ ap (λ z. not_of (tree z)) (sym first),
    )
