use Rattle.std.proofs.Common.{◌≡◌, ap, ◌∙◌}
use Rattle.program_trees.specs.View.{view_behavior}
use Rattle.program_steps.specs.Leaves.{fill}
use Rattle.program_steps.specs.Terms.{assumed_tree, entry_reading}
use Rattle.program_steps.specs.Words.{under}
use Rattle.step_walks.specs.View.{view_state}
use Rattle.step_walks.specs.Walks.{states}
use Rattle.walk_frames.specs.View.{facts_in, shape_in}
use Rattle.call_walks.proofs.sets.inclusion.Goals as goal

pub returns : goal.returns
returns g c k =
    let p = facts_in c.args.frame in
    let s = shape_in c.args.frame k in
    let tx = g.T.Texts.text c.args.texts.now in
    c.in_ok-made.ensures k ∙ ap (under c.args.is_plain (fill (states (view_state c.args.state.now)) (assumed_tree p s tx (entry_reading p s tx c.args.level) (view_behavior c.args.behavior.now).assumes))) c.in_ok-lies.ensures
