use Rattle.std.proofs.Common.{◌≡◌, ◌<◌, ◌≤◌, ◌++◌, ◌∷◌, [], List, map, length, get_or, ap, ◌∙◌, subst}
use Rattle.std.proofs.lemmas.List.{map_push}
use Rattle.qed_terms.specs.View.{formula_tree}
use Rattle.program_trees.specs.declared.contracts.Behavior.{Behavior}
use Rattle.step_walks.specs.View.{view_state}
use Rattle.step_walks.specs.Walks.{states}
use Rattle.walk_frames.specs.View.{facts_in, shape_in}
use Rattle.function_walks.proofs.Behaviors.{formula_by, formulas_are}
use Rattle.function_walks.proofs.Requiring.{list_step, list_done}
use Rattle.function_walks.proofs.together.all_formulas.Goals as goal

pub loop-behavior-preserved : goal.loop-behavior-preserved
loop-behavior-preserved g c m k =
    let p = facts_in c.args.frame in
    let s = shape_in c.args.frame k in
    let texts = g.T.Texts.text c.args.texts.now in
    let ss = states (view_state c.args.state.now) in
    let f = formula_by m p s texts ss in
    let bs = c.args.frame.contract.now.behaviors in
    let i = c.loop-behavior.behavior-index in
    let x = c.behavior-item.result in
    let old = c.loop-behavior.made in
    let same : c.as_slice-behavior-items.result.now ≡ bs = c.as_slice-behavior-items.ensures in
    let lt = subst (λ (xs : List Behavior). i < length xs) same c.loop-behavior-test.true in
    let is = subst (λ (xs : List Behavior). x ≡ get_or xs i x) same c.behavior-item.is in
    let push = ap (map formula_tree) c.in_ok-push.ensures.ok ∙ map_push formula_tree old c.in_ok-formula.formula ∙ ap (λ t. map formula_tree old ++ t ∷ []) (c.in_ok-formula.ensures m k) in
    list_step f bs i x (map formula_tree old) (map formula_tree c.push.new.self) (map f bs) lt is (c.loop-behavior.invariant m k) push

pub returns : goal.returns
returns g c m k =
    let p = facts_in c.args.frame in
    let s = shape_in c.args.frame k in
    let texts = g.T.Texts.text c.args.texts.now in
    let ss = states (view_state c.args.state.now) in
    let f = formula_by m p s texts ss in
    let bs = c.args.frame.contract.now.behaviors in
    let same : c.as_slice-behavior-items.result.now ≡ bs = c.as_slice-behavior-items.ensures in
    let over = subst (λ (xs : List Behavior). length xs ≤ c.loop-behavior.behavior-index) same c.loop-behavior-test.false in
    list_done f bs c.loop-behavior.behavior-index (map formula_tree c.loop-behavior.made) (map f bs) over (c.loop-behavior.invariant m k) ∙ formulas_are m p s texts ss bs
