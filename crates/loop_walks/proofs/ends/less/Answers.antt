use Rattle.std.proofs.Common.{◌≡◌, ◌∙◌, ap, ℕ, suc}
use Rattle.acsl_encode.specs.Encode as encode
use Rattle.acsl_trees.specs.Tree.{view_tree}
use Rattle.c_runs.specs.Claims as broken
use Rattle.qed_terms.specs.View.{term_tree}
use Rattle.program_steps.specs.Leaves.{fill}
use Rattle.program_steps.specs.Stops.{broken_place}
use Rattle.program_steps.specs.Terms.{body_reading, or_zero}
use Rattle.step_walks.specs.View.{view_place, view_state}
use Rattle.step_walks.specs.Walks.{states}
use Rattle.walk_frames.specs.View.{facts_in, shape_in}
use Rattle.loop_walks.proofs.Checks.{asked_so, less_written}
use Rattle.loop_walks.proofs.ends.less.Goals as goal

pub returns : goal.returns
returns g c m k pt e =
    let ss = states (view_state c.args.state.now) in
    let p = facts_in c.args.frame in
    let s = shape_in c.args.frame k in
    let tx = g.T.Texts.text c.args.texts.now in
    let a = view_tree c.args.measure.now.what in
    let measure = λ (h n : ℕ). or_zero (encode.term_of (body_reading p s tx h n 2 a) a) in
    let place : view_place c.broken_place-place.result ≡ broken_place broken.variant_less c.args.measure.now.line = c.broken_place-place.ensures in
    asked_so c.in_ok-claim.ensures
    ∙ less_written m ss p s tx 0 1 (suc (suc (suc pt.entry))) 2 a (term_tree c.in_ok-now.now) (term_tree c.in_ok-before.before) (broken_place broken.variant_less c.args.measure.now.line)
    (view_place c.broken_place-place.result) place (c.in_ok-now.ensures k ∙ ap (λ n. fill ss (measure 0 n)) e) (c.in_ok-before.ensures k ∙ ap (λ n. fill ss (measure 1 n)) e)
