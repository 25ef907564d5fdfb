use Rattle.std.proofs.Common.{◌≡◌, ◌++◌, take, drop, sym, ◌∙◌, ap, arith}
use Rattle.qed_terms.specs.View.{term_tree}
use Rattle.qed_terms.specs.Order.{tree_cmp}
use Rattle.qed_linear.specs.Linear.{cons_nonzero, add_part}
use Rattle.qed_linear.specs.View.{wide_value, wide_parts, IsAddedAt}
use Rattle.qed_linear.proofs.SumSteps.{pass_less, pass_equal, pass_end}
use Rattle.qed_linear.proofs.Places.{on_ok}
use Rattle.qed_linear.proofs.sums.add_part.Goals as goal

pub returns-in-Less : goal.returns-in-Less
returns-in-Less c =
    let xs = c.loop-at.parts.items in
    let a = term_tree c.args.atom in
    let k = wide_value c.args.times in
    let e = sym (c.compare.ensures ∙ ap (λ y. tree_cmp (term_tree y) (term_tree c.index.result.now.atom)) c.loop-at.invariant.same_atom) ∙ c.in-Less.is in
    on_ok c.insert.result
    (wide_parts c.insert.new.parts.items ≡ wide_parts (take c.loop-at.at xs) ++ cons_nonzero a k (wide_parts (drop c.loop-at.at xs)))
    (wide_parts c.insert.new.parts.items ≡ add_part a k (wide_parts c.args.parts.now.items))
    (λ h. h ∙ sym (pass_less xs c.loop-at.at c.index.result.now a k (omega arith) c.index.ensures e c.loop-at.invariant.passed) ∙ ap (λ ys. add_part a k (wide_parts ys)) c.loop-at.invariant.same_parts)
    (rw c.loop-at.invariant.same_atom at c.insert.ensures)

pub returns-in-Equal : goal.returns-in-Equal
returns-in-Equal c =
    let xs = c.loop-at.parts.items in
    let a = term_tree c.args.atom in
    let k = wide_value c.args.times in
    let e = sym (c.compare.ensures ∙ ap (λ y. tree_cmp (term_tree y) (term_tree c.index.result.now.atom)) c.loop-at.invariant.same_atom) ∙ c.in-Equal.is in
    on_ok c.add_at.result
    (IsAddedAt xs c.loop-at.at k c.add_at.new.parts.items)
    (wide_parts c.add_at.new.parts.items ≡ add_part a k (wide_parts c.args.parts.now.items))
    (λ h. h c.index.result.now c.index.ensures ∙ sym (pass_equal xs c.loop-at.at c.index.result.now a k (omega arith) c.index.ensures e c.loop-at.invariant.passed) ∙ ap (λ ys. add_part a k (wide_parts ys)) c.loop-at.invariant.same_parts)
    c.add_at.ensures

pub returns : goal.returns
returns c =
    let xs = c.loop-at.parts.items in
    let a = term_tree c.args.atom in
    let k = wide_value c.args.times in
    on_ok c.insert-2.result
    (wide_parts c.insert-2.new.parts.items ≡ wide_parts (take c.loop-at.at xs) ++ cons_nonzero a k (wide_parts (drop c.loop-at.at xs)))
    (wide_parts c.insert-2.new.parts.items ≡ add_part a k (wide_parts c.args.parts.now.items))
    (λ h. h ∙ sym (pass_end xs c.loop-at.at a k (omega arith) c.loop-at.invariant.passed) ∙ ap (λ ys. add_part a k (wide_parts ys)) c.loop-at.invariant.same_parts)
    (rw c.loop-at.invariant.same_atom at c.insert-2.ensures)
