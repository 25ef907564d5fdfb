use Rattle.std.proofs.Common.{◌≡◌, ◌<◌, ◌≤◌, ◌++◌, List, map, length, get_or, ap, ◌∙◌, subst}
use Rattle.program_trees.specs.declared.contracts.Together.{Together}
use Rattle.program_trees.specs.View.{view_behavior}
use Rattle.step_walks.specs.View.{view_state}
use Rattle.step_walks.specs.Walks.{states}
use Rattle.walk_frames.specs.Asked.{view_asked}
use Rattle.walk_frames.specs.View.{facts_in, shape_in}
use Rattle.function_walks.proofs.Behaviors.{asked_by, asked_are}
use Rattle.function_walks.proofs.Requiring.{flat, lists_step, lists_done}
use Rattle.function_walks.proofs.together.put_together.Goals as goal

pub loop-together-preserved : goal.loop-together-preserved
loop-together-preserved g c m k =
    let p = facts_in c.args.frame in
    let s = shape_in c.args.frame k in
    let texts = g.T.Texts.text c.args.texts.now in
    let ss = states (view_state c.args.state.now) in
    let bs = map view_behavior c.args.frame.contract.now.behaviors in
    let o = c.args.is_complete in
    let f = asked_by m p s texts ss bs o in
    let ts = c.args.frame.contract.now.together in
    let all = map view_asked c.args.made.now ++ flat f ts in
    let i = c.loop-together.together-index in
    let old = c.loop-together.made in
    let same : c.as_slice-together-items.result.now ≡ ts = c.as_slice-together-items.ensures in
    let x = c.together-item.result in
    let lt = subst (λ (xs : List Together). i < length xs) same c.loop-together-test.true in
    let is = subst (λ (xs : List Together). x ≡ get_or xs i x) same c.together-item.is in
    lists_step f ts i x (map view_asked old) (map view_asked c.put_said.new.made) all lt is (c.loop-together.invariant m k) (c.in_ok-put_said.ensures m k)

pub returns : goal.returns
returns g c m k =
    let p = facts_in c.args.frame in
    let s = shape_in c.args.frame k in
    let texts = g.T.Texts.text c.args.texts.now in
    let ss = states (view_state c.args.state.now) in
    let bs = map view_behavior c.args.frame.contract.now.behaviors in
    let o = c.args.is_complete in
    let f = asked_by m p s texts ss bs o in
    let ts = c.args.frame.contract.now.together in
    let all = map view_asked c.args.made.now ++ flat f ts in
    let i = c.loop-together.together-index in
    let old = c.loop-together.made in
    let same : c.as_slice-together-items.result.now ≡ ts = c.as_slice-together-items.ensures in
    let over = subst (λ (xs : List Together). length xs ≤ i) same c.loop-together-test.false in
    lists_done f ts i (map view_asked old) all over (c.loop-together.invariant m k) ∙ ap (λ xs. map view_asked c.args.made.now ++ xs) (asked_are m p s texts ss bs o ts)
