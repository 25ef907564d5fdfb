use Rattle.std.proofs.Common.{◌≡◌, ◌<◌, ◌≤◌, ◌++◌, List, map, length, get_or, ap, ◌∙◌, subst}
use Rattle.program_trees.specs.declared.contracts.Behavior.{Behavior}
use Rattle.step_walks.specs.View.{view_state}
use Rattle.step_walks.specs.Walks.{states}
use Rattle.walk_frames.specs.Asked.{view_asked}
use Rattle.walk_frames.specs.View.{facts_in, shape_in}
use Rattle.function_walks.proofs.Requiring.{flat, lists_step, lists_done}
use Rattle.function_walks.proofs.Returning.{promised_of, all_promised}
use Rattle.function_walks.proofs.promises.put_behaviors.Goals as goal

pub loop-behavior-preserved : goal.loop-behavior-preserved
loop-behavior-preserved g c m k =
    let p = facts_in c.args.frame in
    let s = shape_in c.args.frame k in
    let texts = g.T.Texts.text c.args.texts.now in
    let ss = states (view_state c.args.state.now) in
    let f = promised_of p s texts ss m in
    let bs = c.args.frame.contract.now.behaviors in
    let i = c.loop-behavior.behavior-index in
    let all = map view_asked c.args.made.now ++ flat f bs in
    let same : c.as_slice-behavior-items.result.now ≡ bs = c.as_slice-behavior-items.ensures in
    let x = c.behavior-item.result in
    let lt = subst (λ (xs : List Behavior). i < length xs) same c.loop-behavior-test.true in
    let is = subst (λ (xs : List Behavior). x ≡ get_or xs i x) same c.behavior-item.is in
    lists_step f bs i x (map view_asked c.loop-behavior.made) (map view_asked c.put_behavior.new.made) all lt is (c.loop-behavior.invariant m k) (c.in_ok-put_behavior.ensures m k)

pub returns : goal.returns
returns g c m k =
    let p = facts_in c.args.frame in
    let s = shape_in c.args.frame k in
    let texts = g.T.Texts.text c.args.texts.now in
    let ss = states (view_state c.args.state.now) in
    let f = promised_of p s texts ss m in
    let bs = c.args.frame.contract.now.behaviors in
    let i = c.loop-behavior.behavior-index in
    let all = map view_asked c.args.made.now ++ flat f bs in
    let same : c.as_slice-behavior-items.result.now ≡ bs = c.as_slice-behavior-items.ensures in
    let over = subst (λ (xs : List Behavior). length xs ≤ i) same c.loop-behavior-test.false in
    lists_done f bs i (map view_asked c.loop-behavior.made) all over (c.loop-behavior.invariant m k) ∙ ap (λ xs. map view_asked c.args.made.now ++ xs) (all_promised p s texts ss m bs)
