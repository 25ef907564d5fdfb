use Rattle.std.proofs.Common.{◌≡◌, ◌&&◌, sym, ◌∙◌, ap}
use Rattle.std.specs.Prelude.{option_map}
use Rattle.qed_terms.specs.Tree.{head_of}
use Rattle.qed_terms.specs.View.{formula_tree, term_tree}
use Rattle.qed_linear.specs.Linear.{is_integer}
use Rattle.qed_rules.specs.Rules.{then_some, chosen_arm}
use Rattle.qed_rules.proofs.TermPasses.{arm_true, arm_false, arm_other}
use Rattle.qed_linear.proofs.Places.{if_ok}
use Rattle.qed_rules.proofs.terms.chosen_arm.Goals as goal

pub returns-then-is_truth_constant : goal.returns-then-is_truth_constant
returns-then-is_truth_constant c =
    let f = formula_tree c.args.condition.now in
    let t = term_tree c.args.left.now in
    let u = term_tree c.args.right.now in
    if_ok c.integer.result
    (λ x. option_map term_tree x ≡ then_some (is_integer (head_of t)) t)
    (λ x. option_map term_tree x ≡ chosen_arm (head_of f) t u)
    (λ x k. k ∙ sym (arm_true f t u (sym c.is_truth_constant.ensures ∙ c.if-is_truth_constant.true)))
    c.integer.ensures

pub returns-then-is_truth_constant-2 : goal.returns-then-is_truth_constant-2
returns-then-is_truth_constant-2 c =
    let f = formula_tree c.args.condition.now in
    let t = term_tree c.args.left.now in
    let u = term_tree c.args.right.now in
    if_ok c.integer-then-is_truth_constant-2.result
    (λ x. option_map term_tree x ≡ then_some (is_integer (head_of u)) u)
    (λ x. option_map term_tree x ≡ chosen_arm (head_of f) t u)
    (λ x k. k ∙ sym (arm_false f t u (sym c.is_truth_constant-2.ensures ∙ c.if-is_truth_constant-2.true)))
    c.integer-then-is_truth_constant-2.ensures

pub returns-then-not-is_same : goal.returns-then-not-is_same
returns-then-not-is_same c =
    let f = formula_tree c.args.condition.now in
    let t = term_tree c.args.left.now in
    let u = term_tree c.args.right.now in
    sym (arm_other f t u (sym c.is_truth_constant.ensures ∙ c.if-is_truth_constant.false) (sym c.is_truth_constant-2.ensures ∙ c.if-is_truth_constant-2.false) ∙ ap (λ b. then_some (b && is_integer (head_of t)) t) (sym c.is_same.ensures.same ∙ c.if-not-is_same.true))

pub returns : goal.returns
returns c =
    let f = formula_tree c.args.condition.now in
    let t = term_tree c.args.left.now in
    let u = term_tree c.args.right.now in
    let same = ap (λ b. then_some (b && is_integer (head_of t)) t) (sym c.is_same.ensures.same ∙ c.if-not-is_same.false) in
    if_ok c.integer-2.result
    (λ x. option_map term_tree x ≡ then_some (is_integer (head_of t)) t)
    (λ x. option_map term_tree x ≡ chosen_arm (head_of f) t u)
    (λ x k. k ∙ sym (arm_other f t u (sym c.is_truth_constant.ensures ∙ c.if-is_truth_constant.false) (sym c.is_truth_constant-2.ensures ∙ c.if-is_truth_constant-2.false) ∙ same))
    c.integer-2.ensures
