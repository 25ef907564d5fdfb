use Rattle.std.proofs.Common.{◌≡◌, suc, sym, ◌∙◌}
use Rattle.acsl_trees.specs.Tree.{view_tree}
use Rattle.c_runs.specs.Claims as broken
use Rattle.qed_terms.specs.View.{formula_tree}
use Rattle.program_steps.specs.Leaves.{fill}
use Rattle.program_steps.specs.Stops.{broken_place}
use Rattle.program_steps.specs.Terms.{body_reading, claim_tree}
use Rattle.program_steps.specs.Words.{check}
use Rattle.step_walks.specs.View.{view_state}
use Rattle.step_walks.specs.Walks.{states}
use Rattle.walk_frames.specs.View.{facts_in, shape_in}
use Rattle.walk_frames.proofs.Asking.{filled_closed}
use Rattle.walk_frames.proofs.Closedness.{formulas_closed}
use Rattle.walk_frames.proofs.claims.walk_claim.Goals as goal

pub returns : goal.returns
returns g c first m k =
    let p = facts_in c.args.frame in
    let s = shape_in c.args.frame k in
    let tx = g.T.Texts.text c.args.texts.now in
    let ss = states (view_state c.args.state.now) in
    let a = view_tree c.args.claim.now.what in
    let t = claim_tree p s tx (body_reading p s tx 0 (suc c.args.point.entry) (suc c.args.point.loop_entry)) a in
    let made : formula_tree c.in_ok-formula.formula ≡ fill ss t =
    c.in_ok-formula.ensures k ∙ (λ i. fill ss (claim_tree p s tx (body_reading p s tx 0 (c.in_ok-entry.ensures i) (c.in_ok-loop_entry.ensures i)) a)) in
    c.in_ok-ask.ensures first c.args.frame.bases.now (check m t (broken_place broken.assert c.args.claim.now.line)) (sym c.broken_place.ensures)
    (filled_closed ss t (formula_tree c.in_ok-formula.formula) (formulas_closed.claims p s tx 0 (suc c.args.point.entry) (suc c.args.point.loop_entry) a) made)
