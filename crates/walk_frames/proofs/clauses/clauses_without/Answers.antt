use Rattle.std.proofs.Common.{rules, ◌≡◌, ◌++◌, true, map, ap, sym, ◌∙◌}
use Rattle.qed_terms.specs.View.{formula_tree}
use Rattle.program_trees.specs.View.{view_behavior, view_contract}
use Rattle.program_steps.specs.Leaves.{fill}
use Rattle.program_steps.specs.Words.{missing_all, missing_in}
use Rattle.step_walks.specs.View.{view_state}
use Rattle.step_walks.specs.Walks.{states}
use Rattle.walk_frames.specs.View.{facts_in, shape_in}
use Rattle.walk_frames.proofs.Missing.{filled_both}
use Rattle.walk_frames.proofs.clauses.clauses_without.Goals as goal

pub returns : goal.returns
returns g c k =
    let p = facts_in c.args.frame in
    let s = shape_in c.args.frame k in
    let tx = g.T.Texts.text c.args.texts.now in
    let ss = states (view_state c.args.state.now) in
    let plain = missing_in p s tx c.args.level true (view_contract c.args.frame.contract.now).plain c.args.variable in
    let bs = c.args.frame.contract.now.behaviors in
    let slice : c.as_slice.result.now ≡ bs = search (rules, c.as_slice.ensures) in
    let none = ap (map formula_tree) c.new-made.ensures in
    c.in_ok-put_missing.ensures k ∙ ap (λ fs. fs ++ map (fill ss) (missing_all p s tx c.args.level (map view_behavior c.as_slice.result.now) c.args.variable)) (c.in_ok-missing_in.ensures k ∙ ap (λ fs. fs ++ map (fill ss) plain) none)
    ∙ ap (λ cs. map (fill ss) plain ++ map (fill ss) (missing_all p s tx c.args.level (map view_behavior cs) c.args.variable)) slice
    ∙ sym (filled_both ss plain (missing_all p s tx c.args.level (map view_behavior bs) c.args.variable))
