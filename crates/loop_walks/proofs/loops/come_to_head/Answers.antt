use Rattle.std.proofs.Common.{rules, ◌≡◌, ◌∙◌, ap, map}
use Rattle.checked_trees.specs.View.{view_steps}
use Rattle.core_trees.specs.View.{view_loop}
use Rattle.program_trees.specs.View.{view_contract}
use Rattle.step_walks.specs.View.{view_state}
use Rattle.step_walks.specs.Walks.{now_changed}
use Rattle.step_walks.proofs.Walking.{change_walks, seq_goes}
use Rattle.walk_frames.specs.View.{facts_in, shape_in, view_point}
use Rattle.walk_words.specs.View.{view_change}
use Rattle.loop_words.specs.Words as words
use Rattle.loop_walks.specs.Parts.{head_trees}
use Rattle.loop_walks.proofs.Closed.{head_closed}
use Rattle.loop_walks.proofs.loops.come_to_head.Goals as goal

pub returns : goal.returns
returns g c m k os gs =
    let p = facts_in c.args.frame in
    let s = shape_in c.args.frame k in
    let tx = g.T.Texts.text c.args.texts.now in
    let d = view_contract c.args.frame.contract.now in
    let pt = view_point c.args.frame os c.args.point in
    let l = view_loop c.args.l.now in
    let ss = view_steps c.args.body.now in
    let cs = words.head_changes p s d pt l ss in
    let told : c.as_slice.result.now ≡ c.in_ok-changing.changing.items = search (rules, c.as_slice.ensures.value) in
    let listed : c.as_slice-3.result.now ≡ c.in_ok-changes.changes.items = search (rules, c.as_slice-3.ensures.value) in
    let bases : c.as_slice-2.result.now ≡ c.args.frame.bases.now = search (rules, c.as_slice-2.ensures) in
    let again : c.as_slice-4.result.now ≡ c.in_ok-changing.changing.items = search (rules, c.as_slice-4.ensures.value) in
    let is = c.in_ok-changes.ensures k d pt (told ∙ c.in_ok-changing.ensures os) in
    let changed : view_state c.change.new.state ≡ now_changed c.args.frame.bases.now (view_state c.args.state.now) cs =
    c.in_ok-change.ensures ∙ (λ i. now_changed (bases i) (view_state c.args.state.now) ((ap (map view_change) listed ∙ is) i)) in
    seq_goes (change_walks cs changed)
    (c.in_ok-know_all.ensures m c.args.frame.bases.now (head_trees p s tx d pt l) gs (head_closed p s tx d pt l) (c.in_ok-formulas.ensures k os (again ∙ c.in_ok-changing.ensures os)))
