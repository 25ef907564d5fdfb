use Rattle.std.proofs.Common.{ap, arith}
use Rattle.qed_terms.specs.Tree.{size}
use Rattle.qed_terms.specs.Nodes.{node_tree}
use Rattle.qed_terms.specs.View.{term_tree}
use Rattle.qed_terms.proofs.Sizes.{size-kid}
use Rattle.qed_substitution.proofs.Kids.{clear_start}
use Rattle.qed_substitution.proofs.clear.+is_clear.Goals as goal

pub are_clear-loop-at-init : goal.are_clear-loop-at-init
are_clear-loop-at-init t c = clear_start c.args.under c.args.name.now (term_tree c.args.by.now) (node_tree c.args.node)

pub are_clear-is_clear-requires : goal.are_clear-is_clear-requires
are_clear-is_clear-requires t c =
    let k = size-kid (node_tree c.args.node) c.loop-at.at (omega (arith, c.loop-at-test.true, c.kid_count-at-end.ensures)) in
    let e = ap size c.kid.ensures in
    (omega (arith, k, e, c.decreases), tt)
