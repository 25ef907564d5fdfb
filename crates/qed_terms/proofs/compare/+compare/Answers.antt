use Rattle.std.proofs.Common.{◌≡◌, get_or, refl, sym, ◌∙◌, ap, arith, Less, Equal, Greater, nat_cmp}
use Rattle.qed_terms.specs.Tree.{head_of, size, true_tree}
use Rattle.qed_terms.specs.Order.{starts, tree_cmp}
use Rattle.qed_terms.specs.Nodes.{node_tree, kids_of}
use Rattle.qed_terms.proofs.Turns.{from_first, left_more, right_more, none_left, one_start, one_kid, whole}
use Rattle.qed_terms.proofs.Sizes.{size-kid}
use Rattle.qed_terms.proofs.compare.+compare.Goals as goal

pub compare-returns-in-Less : goal.compare-returns-in-Less
compare-returns-in-Less t c = sym (whole (node_tree c.args.left) (node_tree c.args.right) Less _ _ (sym c.compare_fronts.ensures ∙ c.in-Less.is) refl refl)

pub compare-returns-in-Greater : goal.compare-returns-in-Greater
compare-returns-in-Greater t c = sym (whole (node_tree c.args.left) (node_tree c.args.right) Greater _ _ (sym c.compare_fronts.ensures ∙ c.in-Greater.is) refl refl)

pub compare-returns-in-Less-compare_kids : goal.compare-returns-in-Less-compare_kids
compare-returns-in-Less-compare_kids t c = sym (whole (node_tree c.args.left) (node_tree c.args.right) Equal Less _ (sym c.compare_fronts.ensures ∙ c.in-Equal.is) (sym c.compare_kids.ensures ∙ c.in-Less-compare_kids.is) refl)

pub compare-returns-in-Equal-compare_kids : goal.compare-returns-in-Equal-compare_kids
compare-returns-in-Equal-compare_kids t c = sym (whole (node_tree c.args.left) (node_tree c.args.right) Equal Equal _ (sym c.compare_fronts.ensures ∙ c.in-Equal.is) (sym c.compare_kids.ensures ∙ c.in-Equal-compare_kids.is) (sym c.compare_backs.ensures))

pub compare-returns-in-Greater-compare_kids : goal.compare-returns-in-Greater-compare_kids
compare-returns-in-Greater-compare_kids t c = sym (whole (node_tree c.args.left) (node_tree c.args.right) Equal Greater _ (sym c.compare_fronts.ensures ∙ c.in-Equal.is) (sym c.compare_kids.ensures ∙ c.in-Greater-compare_kids.is) refl)

pub compare_kids-loop-at-init : goal.compare_kids-loop-at-init
compare_kids-loop-at-init t c = record { within = omega arith; rest = from_first _ _ (node_tree c.args.left) (node_tree c.args.right) }

pub compare_kids-returns-then-at-kid_count : goal.compare_kids-returns-then-at-kid_count
compare_kids-returns-then-at-kid_count t c = sym (c.loop-at.invariant.rest ∙ left_more _ _ (kids_of (node_tree c.args.left)) (kids_of (node_tree c.args.right)) c.loop-at.at (omega (arith, c.loop-at-test.true, c.kid_count-count.ensures)) (omega (arith, c.if-at-kid_count.true, c.kid_count.ensures)))

pub compare_kids-returns-in-Less : goal.compare_kids-returns-in-Less
compare_kids-returns-in-Less t c =
    let e : nat_cmp (get_or (starts (head_of (node_tree c.args.left))) c.loop-at.at 0) (get_or (starts (head_of (node_tree c.args.right))) c.loop-at.at 0) ≡ Less = (λ i. nat_cmp (sym c.start.ensures i) (sym c.start-in-loop-at.ensures i)) ∙ sym c.cmp.ensures ∙ c.in-Less.is in
    sym (c.loop-at.invariant.rest ∙ one_start _ _ (kids_of (node_tree c.args.left)) (kids_of (node_tree c.args.right)) c.loop-at.at Less (omega (arith, c.loop-at-test.true, c.kid_count-count.ensures)) (omega (arith, c.if-at-kid_count.false, c.kid_count.ensures)) e)

pub compare_kids-returns-in-Greater : goal.compare_kids-returns-in-Greater
compare_kids-returns-in-Greater t c =
    let e : nat_cmp (get_or (starts (head_of (node_tree c.args.left))) c.loop-at.at 0) (get_or (starts (head_of (node_tree c.args.right))) c.loop-at.at 0) ≡ Greater = (λ i. nat_cmp (sym c.start.ensures i) (sym c.start-in-loop-at.ensures i)) ∙ sym c.cmp.ensures ∙ c.in-Greater.is in
    sym (c.loop-at.invariant.rest ∙ one_start _ _ (kids_of (node_tree c.args.left)) (kids_of (node_tree c.args.right)) c.loop-at.at Greater (omega (arith, c.loop-at-test.true, c.kid_count-count.ensures)) (omega (arith, c.if-at-kid_count.false, c.kid_count.ensures)) e)

pub compare_kids-compare-requires : goal.compare_kids-compare-requires
compare_kids-compare-requires t c =
    let k = size-kid (node_tree c.args.left) c.loop-at.at (omega (arith, c.loop-at-test.true, c.kid_count-count.ensures)) in
    let e = ap size c.kid.ensures in
    (omega (arith, k, e, c.decreases), tt)

pub compare_kids-returns-in-Less-compare : goal.compare_kids-returns-in-Less-compare
compare_kids-returns-in-Less-compare t c =
    let e : nat_cmp (get_or (starts (head_of (node_tree c.args.left))) c.loop-at.at 0) (get_or (starts (head_of (node_tree c.args.right))) c.loop-at.at 0) ≡ Equal = (λ i. nat_cmp (sym c.start.ensures i) (sym c.start-in-loop-at.ensures i)) ∙ sym c.cmp.ensures ∙ c.in-Equal.is in
    let f : tree_cmp (get_or (kids_of (node_tree c.args.left)) c.loop-at.at true_tree) (get_or (kids_of (node_tree c.args.right)) c.loop-at.at true_tree) ≡ Less = (λ i. tree_cmp (sym c.kid.ensures i) (sym c.kid-in-loop-at.ensures i)) ∙ sym c.compare.ensures ∙ c.in-Less-compare.is in
    sym (c.loop-at.invariant.rest ∙ one_kid _ _ (kids_of (node_tree c.args.left)) (kids_of (node_tree c.args.right)) c.loop-at.at Equal Less (omega (arith, c.loop-at-test.true, c.kid_count-count.ensures)) (omega (arith, c.if-at-kid_count.false, c.kid_count.ensures)) e f)

pub compare_kids-returns-in-Greater-compare : goal.compare_kids-returns-in-Greater-compare
compare_kids-returns-in-Greater-compare t c =
    let e : nat_cmp (get_or (starts (head_of (node_tree c.args.left))) c.loop-at.at 0) (get_or (starts (head_of (node_tree c.args.right))) c.loop-at.at 0) ≡ Equal = (λ i. nat_cmp (sym c.start.ensures i) (sym c.start-in-loop-at.ensures i)) ∙ sym c.cmp.ensures ∙ c.in-Equal.is in
    let f : tree_cmp (get_or (kids_of (node_tree c.args.left)) c.loop-at.at true_tree) (get_or (kids_of (node_tree c.args.right)) c.loop-at.at true_tree) ≡ Greater = (λ i. tree_cmp (sym c.kid.ensures i) (sym c.kid-in-loop-at.ensures i)) ∙ sym c.compare.ensures ∙ c.in-Greater-compare.is in
    sym (c.loop-at.invariant.rest ∙ one_kid _ _ (kids_of (node_tree c.args.left)) (kids_of (node_tree c.args.right)) c.loop-at.at Equal Greater (omega (arith, c.loop-at-test.true, c.kid_count-count.ensures)) (omega (arith, c.if-at-kid_count.false, c.kid_count.ensures)) e f)

pub compare_kids-loop-at-preserved : goal.compare_kids-loop-at-preserved
compare_kids-loop-at-preserved t c =
    let e : nat_cmp (get_or (starts (head_of (node_tree c.args.left))) c.loop-at.at 0) (get_or (starts (head_of (node_tree c.args.right))) c.loop-at.at 0) ≡ Equal = (λ i. nat_cmp (sym c.start.ensures i) (sym c.start-in-loop-at.ensures i)) ∙ sym c.cmp.ensures ∙ c.in-Equal.is in
    let f : tree_cmp (get_or (kids_of (node_tree c.args.left)) c.loop-at.at true_tree) (get_or (kids_of (node_tree c.args.right)) c.loop-at.at true_tree) ≡ Equal = (λ i. tree_cmp (sym c.kid.ensures i) (sym c.kid-in-loop-at.ensures i)) ∙ sym c.compare.ensures ∙ c.in-Equal-compare.is in
    record {
      within = omega (arith, c.if-at-kid_count.false, c.kid_count.ensures);
      rest = c.loop-at.invariant.rest ∙ one_kid _ _ (kids_of (node_tree c.args.left)) (kids_of (node_tree c.args.right)) c.loop-at.at Equal Equal (omega (arith, c.loop-at-test.true, c.kid_count-count.ensures)) (omega (arith, c.if-at-kid_count.false, c.kid_count.ensures)) e f;
    }

pub compare_kids-returns-then-count-kid_count : goal.compare_kids-returns-then-count-kid_count
compare_kids-returns-then-count-kid_count t c = sym (c.loop-at.invariant.rest ∙ right_more _ _ (kids_of (node_tree c.args.left)) (kids_of (node_tree c.args.right)) c.loop-at.at (omega (arith, c.loop-at-test.false, c.kid_count-count.ensures)) (omega (arith, c.loop-at.invariant.within, c.loop-at.auto, c.loop-at-test.false, c.if-count-kid_count.true, c.kid_count-2.ensures, c.kid_count-count.ensures)))

pub compare_kids-returns-else-count-kid_count : goal.compare_kids-returns-else-count-kid_count
compare_kids-returns-else-count-kid_count t c = sym (c.loop-at.invariant.rest ∙ none_left _ _ (kids_of (node_tree c.args.left)) (kids_of (node_tree c.args.right)) c.loop-at.at (omega (arith, c.loop-at-test.false, c.kid_count-count.ensures)) (omega (arith, c.loop-at-test.false, c.if-count-kid_count.false, c.kid_count-2.ensures)))
