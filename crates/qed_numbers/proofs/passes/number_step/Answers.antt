use Rattle.std.proofs.Common.{◌≡◌, map, option_map, sym, ◌∙◌, ap, arith}
use Rattle.qed_terms.specs.declared.head.Head.TheVariants as h
use Rattle.qed_terms.specs.Tree.{one, two, trees_of}
use Rattle.qed_terms.specs.View.{term_tree}
use Rattle.qed_linear.proofs.Places.{if_ok}
use Rattle.qed_numbers.specs.Numbers as spec
use Rattle.qed_numbers.proofs.Others.{neither_one_nor_two, one_is, two_is}
use Rattle.qed_numbers.proofs.passes.number_step.Goals as goal

pub returns-then-kids-eq1 : goal.returns-then-kids-eq1
returns-then-kids-eq1 c =
    let x = c.index-kids-0.result in
    let o = c.args.op.now in
    if_ok c.at_one.result
    (λ n. option_map term_tree n ≡ spec.number_step (h.Term o) (one (term_tree x)))
    (λ n. option_map term_tree n ≡ spec.number_step (h.Term o) (trees_of (map term_tree c.args.kids.now)))
    (λ n k. k ∙ ap (spec.number_step (h.Term o)) (sym (one_is c.args.kids.now x (omega (arith, c.if-kids-eq1.true)) c.index-kids-0.is)))
    c.at_one.ensures

pub returns-then-kids-eq2 : goal.returns-then-kids-eq2
returns-then-kids-eq2 c =
    let x = c.index-kids-0-then-kids-eq2.result in
    let y = c.index-kids-1.result in
    let o = c.args.op.now in
    if_ok c.at_two.result
    (λ n. option_map term_tree n ≡ spec.number_step (h.Term o) (two (term_tree x) (term_tree y)))
    (λ n. option_map term_tree n ≡ spec.number_step (h.Term o) (trees_of (map term_tree c.args.kids.now)))
    (λ n k. k ∙ ap (spec.number_step (h.Term o)) (sym (two_is c.args.kids.now x y (omega (arith, c.if-kids-eq2.true)) c.index-kids-0-then-kids-eq2.is c.index-kids-1.is)))
    c.at_two.ensures

pub returns : goal.returns
returns c = neither_one_nor_two c.args.op.now c.args.kids.now (λ k. omega (arith, k, c.if-kids-eq1.false)) (λ k. omega (arith, k, c.if-kids-eq2.false))
