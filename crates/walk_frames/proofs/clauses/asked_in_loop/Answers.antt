use Rattle.std.proofs.Common.{◌++◌, ◌∷◌, [], map, ap, sym, ◌∙◌}
use Rattle.acsl_trees.specs.Tree.{view_trees}
use Rattle.qed_terms.proofs.Equations.{formula_tree-False}
use Rattle.qed_terms.specs.declared.term.Formula.TheVariants as formula
use Rattle.qed_terms.specs.View.{formula_tree}
use Rattle.program_steps.specs.Terms.{has_variable}
use Rattle.program_steps.specs.Words.{is_inside}
use Rattle.walk_frames.proofs.Given.{when_inside, when_outside}
use Rattle.walk_frames.proofs.clauses.asked_in_loop.Goals as goal

pub returns-then-is_inside : goal.returns-then-is_inside
returns-then-is_inside c p s texts =
    when_inside (has_variable (view_trees c.args.regions.now) c.args.variable) (is_inside p s texts c.args.declared c.args.variable) (map formula_tree c.new-made.result) (sym c.has_variable.ensures ∙ c.if-has_variable.false)
    (sym (c.is_inside.ensures p s texts) ∙ c.if-is_inside.true) (ap (map formula_tree) c.new-made.ensures)

pub returns : goal.returns
returns c p s texts =
    let pushed = ap (map formula_tree) (c.in_ok-push.ensures.ok ∙ ap (λ fs. fs ++ formula.False ∷ []) c.new-made.ensures) ∙ ap (λ t. t ∷ []) formula_tree-False in
    when_outside (has_variable (view_trees c.args.regions.now) c.args.variable) (is_inside p s texts c.args.declared c.args.variable) (map formula_tree c.push.new.self) (sym c.has_variable.ensures ∙ c.if-has_variable.false)
    (sym (c.is_inside.ensures p s texts) ∙ c.if-is_inside.false) pushed
