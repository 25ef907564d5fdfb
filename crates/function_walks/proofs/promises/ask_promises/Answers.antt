use Rattle.std.proofs.Common.{◌++◌, true, map, ap}
use Rattle.program_steps.specs.Functions.{ensure_checks, all_ensured}
use Rattle.program_trees.specs.View.{view_contract}
use Rattle.step_walks.specs.View.{view_state}
use Rattle.step_walks.specs.Walks.{states}
use Rattle.walk_frames.specs.Asked.{view_asked}
use Rattle.walk_frames.specs.View.{facts_in, shape_in}
use Rattle.function_walks.proofs.Returning.{all_written}
use Rattle.function_walks.proofs.promises.ask_promises.Goals as goal

pub returns : goal.returns
returns g c first m k =
    let p = facts_in c.args.frame in
    let s = shape_in c.args.frame k in
    let texts = g.T.Texts.text c.args.texts.now in
    let ss = states (view_state c.args.state.now) in
    let contract = view_contract c.args.frame.contract.now in
    let none = ap (map view_asked) c.new-checks.ensures in
    let plain = ensure_checks m p s texts true contract.plain in
    let all = all_ensured m p s texts contract.behaviors in
    let made = all_written ss (map view_asked c.new-checks.result) (map view_asked c.put_behavior.new.made) (map view_asked c.put_behaviors.new.made) plain all none (c.in_ok-put_behavior.ensures m k) (c.in_ok-put_behaviors.ensures m k) in
    c.ask_each.ensures first c.args.frame.bases.now (plain ++ all) made
