use Rattle.std.proofs.Common.{map, ap}
use Rattle.std.specs.Prelude.{filter}
use Rattle.c_runs.specs.Claims.{in_order, says_complete, says_disjoint}
use Rattle.program_steps.specs.Functions.{together_check}
use Rattle.program_trees.specs.View.{view_contract}
use Rattle.step_walks.specs.View.{view_state}
use Rattle.step_walks.specs.Walks.{states}
use Rattle.walk_frames.specs.Asked.{view_asked, written_check}
use Rattle.walk_frames.specs.View.{facts_in, shape_in}
use Rattle.function_walks.proofs.Behaviors.{both_written}
use Rattle.function_walks.proofs.together.ask_together.Goals as goal

pub returns : goal.returns
returns g c first m k =
    let p = facts_in c.args.frame in
    let s = shape_in c.args.frame k in
    let texts = g.T.Texts.text c.args.texts.now in
    let ss = states (view_state c.args.state.now) in
    let contract = view_contract c.args.frame.contract.now in
    let f = together_check m p s texts contract.behaviors in
    let none = ap (map view_asked) c.new-checks.ensures in
    let made = both_written (written_check ss) f (map view_asked c.new-checks.result) (map view_asked c.put_together.new.made) (map view_asked c.put_together-2.new.made) (filter says_complete contract.together) (filter says_disjoint contract.together) none
    (c.in_ok-put_together.ensures m k) (c.in_ok-put_together-2.ensures m k) in
    c.ask_each.ensures first c.args.frame.bases.now (map f (in_order contract.together)) made
