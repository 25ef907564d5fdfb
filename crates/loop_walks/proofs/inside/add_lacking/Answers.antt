use Rattle.std.proofs.Common.{rules, ◌≡◌, true}
use Rattle.acsl_trees.specs.Tree.{view_trees}
use Rattle.qed_terms.proofs.Equations.{formula_tree-False}
use Rattle.qed_terms.specs.View.{formula_tree}
use Rattle.qed_terms.specs.declared.term.Formula.TheVariants as formula
use Rattle.step_walks.specs.View.{view_state}
use Rattle.step_walks.specs.Walks.{states}
use Rattle.walk_frames.specs.View.{facts_in, shape_in}
use Rattle.loop_walks.proofs.Lacking.{lacking_more}
use Rattle.loop_walks.proofs.inside.add_lacking.Goals as goal

pub returns : goal.returns
returns g c k =
    let so : c.lacks_some.result ≡ true = search (rules, c.if-not-lacks_some.false) in
    lacking_more (states (view_state c.args.state.now)) (facts_in c.args.frame) (shape_in c.args.frame k) (g.T.Texts.text c.args.texts.now) c.args.level (view_trees c.args.regions.now) c.args.is_plain
    c.args.behavior.now c.lacks_some.result c.in_ok-formula.formula (formula_tree formula.False) c.args.made.now c.push.new.self c.lacks_some.ensures so formula_tree-False (c.in_ok-formula.ensures k)
    c.in_ok-push.ensures.ok
