use Rattle.std.proofs.Common.{ap, sym, ◌∙◌}
use Rattle.qed_terms.proofs.Equations.{formula_tree-False}
use Rattle.program_trees.specs.View.{view_behavior}
use Rattle.program_steps.specs.Leaves.{fill}
use Rattle.program_steps.specs.Terms.{assumed_tree, entry_reading}
use Rattle.program_steps.specs.Words.{under}
use Rattle.step_walks.specs.View.{view_state}
use Rattle.step_walks.specs.Walks.{states}
use Rattle.walk_frames.specs.View.{facts_in, shape_in}
use Rattle.walk_frames.proofs.Given.{one_missing}
use Rattle.walk_frames.proofs.clauses.missing_in.Goals as goal

pub returns : goal.returns
returns g c k =
    let p = facts_in c.args.frame in
    let s = shape_in c.args.frame k in
    let tx = g.T.Texts.text c.args.texts.now in
    let ss = states (view_state c.args.state.now) in
    let b = view_behavior c.args.behavior.now in
    one_missing ss p s tx c.args.level c.args.is_plain b c.args.variable c.args.made.now c.push.new.self c.in_ok-formula.formula (sym c.lacks.ensures ∙ c.if-not-lacks.false)
    (c.in_ok-formula.ensures k ∙ ap (under c.args.is_plain (fill ss (assumed_tree p s tx (entry_reading p s tx c.args.level) b.assumes))) formula_tree-False) c.in_ok-push.ensures.ok
