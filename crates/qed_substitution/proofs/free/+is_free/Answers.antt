use Rattle.std.proofs.Common.{◌||◌, ◌+◌, sym, ◌∙◌, ap, arith}
use Rattle.qed_terms.specs.Tree.{size}
use Rattle.qed_terms.specs.Nodes.{node_tree}
use Rattle.qed_terms.proofs.Sizes.{size-kid}
use Rattle.qed_substitution.proofs.Kids.{FreeFrom, free_start, free_next}
use Rattle.qed_substitution.proofs.free.+is_free.Goals as goal

pub is_free_in_kids-loop-at-init : goal.is_free_in_kids-loop-at-init
is_free_in_kids-loop-at-init t c = free_start c.args.name.now (node_tree c.args.node)

pub is_free_in_kids-is_free-requires : goal.is_free_in_kids-is_free-requires
is_free_in_kids-is_free-requires t c =
    let k = size-kid (node_tree c.args.node) c.loop-at.at (omega (arith, c.loop-at-test.true, c.kid_count-at-end.ensures)) in
    let e = ap size c.kid.ensures in
    (omega (arith, k, e, c.decreases), tt)

pub is_free_in_kids-returns-then-is_free : goal.is_free_in_kids-returns-then-is_free
is_free_in_kids-returns-then-is_free t c =
    let x = c.args.name.now in
    let n = node_tree c.args.node in
    let next = free_next x n (node_tree c.kid.result) c.loop-at.at c.is_free.result (omega (arith, c.loop-at-test.true, c.kid_count-at-end.ensures)) c.kid.ensures c.is_free.ensures in
    sym (c.loop-at.invariant ∙ next ∙ ap (λ b. b || FreeFrom x n (c.loop-at.at + 1)) c.if-is_free.true)

pub is_free_in_kids-loop-at-preserved : goal.is_free_in_kids-loop-at-preserved
is_free_in_kids-loop-at-preserved t c =
    let x = c.args.name.now in
    let n = node_tree c.args.node in
    let next = free_next x n (node_tree c.kid.result) c.loop-at.at c.is_free.result (omega (arith, c.loop-at-test.true, c.kid_count-at-end.ensures)) c.kid.ensures c.is_free.ensures in
    c.loop-at.invariant ∙ next ∙ ap (λ b. b || FreeFrom x n (c.loop-at.at + 1)) c.if-is_free.false
