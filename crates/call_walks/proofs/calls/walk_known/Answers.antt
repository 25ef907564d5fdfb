use Rattle.std.proofs.Common.{◌≡◌, List, [], length, sym, ap, ◌∙◌}
use Rattle.walk_steps.specs.Forms.{Slots}
use Rattle.walk_steps.specs.Walk.{Goal}
use Rattle.program_trees.specs.View.{view_contract}
use Rattle.checked_trees.specs.View.{view_checked_function}
use Rattle.call_walks.specs.View.{arguments_over}
use Rattle.walk_frames.proofs.Moving.{moved}
use Rattle.step_walks.proofs.Walking.{seq_goes}
use Rattle.step_walks.specs.View.{view_state}
use Rattle.step_walks.specs.Walks.{Held, Walks, states}
use Rattle.walk_frames.specs.View.{facts_in, shape_in, variables_in, view_point}
use Rattle.call_walks.proofs.calls.walk_known.Goals as goal

pub returns : goal.returns
returns g c first m k os functions es good are fine =
    let tx = g.T.Texts.text c.args.texts.now in
    let over = λ (ss : List Slots). arguments_over (facts_in c.args.frame) (variables_in c.args.frame) ss es (length (view_checked_function c.args.callee.now).variables) in
    let a = λ (gs : List Goal). c.in_ok-change_file.ensures gs in
    let b = λ (gs : List Goal). c.in_ok-know_stays.ensures m k es gs good (are ∙ ap over (sym (a []).olds)) in
    let d = λ (gs : List Goal). c.in_ok-change_answer.ensures m k tx (view_contract c.args.frame.contract.now) functions gs in
    let e = λ (gs : List Goal). c.in_ok-know_promised.ensures m k es gs good (are ∙ ap over (sym ((d []).olds ∙ (b []).olds ∙ (a []).olds))) in
    seq_goes (moved a) (seq_goes (moved b) (seq_goes (moved d) (seq_goes (moved e) (c.in_ok-goes.ensures first m k os functions fine))))
