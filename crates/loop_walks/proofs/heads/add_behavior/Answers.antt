use Rattle.std.proofs.Common.{rules, ◌≡◌, ◌∙◌, ap, List}
use Rattle.acsl_trees.specs.Tree.{view_trees}
use Rattle.acsl_trees.specs.declared.tree.Tree.{Tree}
use Rattle.program_steps.specs.Leaves.{fill}
use Rattle.program_steps.specs.Terms.{assumed_tree, entry_reading}
use Rattle.step_walks.specs.View.{view_state}
use Rattle.step_walks.specs.Walks.{states}
use Rattle.walk_frames.specs.View.{facts_in, shape_in}
use Rattle.loop_walks.proofs.heads.add_behavior.Goals as goal

pub returns : goal.returns
returns g c k f h =
    let ss = states (view_state c.args.state.now) in
    let p = facts_in c.args.frame in
    let s = shape_in c.args.frame k in
    let tx = g.T.Texts.text c.args.texts.now in
    let tree = λ (as_ : List Tree). assumed_tree p s tx (entry_reading p s tx c.args.level) (view_trees as_) in
    let seen : c.as_slice.result.now ≡ c.args.behavior.now.assumes = search (rules, c.as_slice.ensures) in
    c.add_stays.ensures (tree c.args.behavior.now.assumes) f p.globals (c.in_ok-assumed.ensures k ∙ ap (λ (as_ : List Tree). fill ss (tree as_)) seen) h
