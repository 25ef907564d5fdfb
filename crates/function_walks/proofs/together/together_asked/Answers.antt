use Rattle.std.proofs.Common.{rules, ◌≡◌, map, ap, ◌∙◌}
use Rattle.acsl_encode.specs.Encode.{all_of}
use Rattle.program_steps.specs.Functions.{no_two, named_trees}
use Rattle.program_steps.specs.Leaves.{fill}
use Rattle.program_trees.specs.View.{view_behavior, view_together}
use Rattle.qed_terms.specs.View.{formula_tree}
use Rattle.step_walks.specs.View.{view_place, view_state}
use Rattle.step_walks.specs.Walks.{states}
use Rattle.walk_frames.specs.View.{facts_in, shape_in}
use Rattle.function_walks.proofs.Behaviors.{complete_made, disjoint_made}
use Rattle.function_walks.proofs.together.together_asked.Goals as goal

pub returns-then-together : goal.returns-then-together
returns-then-together g c m k =
    let p = facts_in c.args.frame in
    let s = shape_in c.args.frame k in
    let texts = g.T.Texts.text c.args.texts.now in
    let ss = states (view_state c.args.state.now) in
    let bs = map view_behavior c.args.frame.contract.now.behaviors in
    let t = view_together c.args.together.now in
    let numbers : c.as_slice.result.now ≡ c.args.together.now.numbers = search (rules, c.as_slice.ensures) in
    let formulas = c.in_ok-formulas.ensures m k ∙ ap (λ ns. map (fill ss) (named_trees m p s texts bs ns)) numbers in
    complete_made m p s texts ss bs t (view_place c.broken_place-place.result) (formula_tree c.any_of-claim.result) (map formula_tree c.in_ok-formulas.formulas) formulas c.if-together.true c.broken_place-place.ensures c.any_of-claim.ensures

pub returns : goal.returns
returns g c m k =
    let p = facts_in c.args.frame in
    let s = shape_in c.args.frame k in
    let texts = g.T.Texts.text c.args.texts.now in
    let ss = states (view_state c.args.state.now) in
    let bs = map view_behavior c.args.frame.contract.now.behaviors in
    let t = view_together c.args.together.now in
    let numbers : c.as_slice.result.now ≡ c.args.together.now.numbers = search (rules, c.as_slice.ensures) in
    let formulas = c.in_ok-formulas.ensures m k ∙ ap (λ ns. map (fill ss) (named_trees m p s texts bs ns)) numbers in
    let slice : c.as_slice-2.result.now ≡ c.in_ok-formulas.formulas = search (rules, c.as_slice-2.ensures) in
    let parts = c.in_ok-parts.ensures ∙ ap (λ fs. no_two (map formula_tree fs)) slice in
    disjoint_made m p s texts ss bs t (view_place c.broken_place-place-2.result) (formula_tree c.all_of-claim.result) (map formula_tree c.in_ok-formulas.formulas) formulas c.if-together.false c.broken_place-place-2.ensures
    (c.all_of-claim.ensures ∙ ap all_of parts)
