use Rattle.std.proofs.Common.{◌≡◌, ◌<◌, ◌≤◌, ◌++◌, ◌∷◌, [], List, map, length, get_or, ap, ◌∙◌, subst}
use Rattle.std.proofs.lemmas.List.{map_push}
use Rattle.core_trees.specs.declared.claims.Claim.{Claim}
use Rattle.step_walks.specs.View.{view_state}
use Rattle.step_walks.specs.Walks.{states}
use Rattle.walk_frames.specs.Asked.{view_asked}
use Rattle.walk_frames.specs.View.{facts_in, shape_in}
use Rattle.function_walks.proofs.Returning.{promised_by, promised_are}
use Rattle.function_walks.proofs.Requiring.{list_step, list_done}
use Rattle.function_walks.proofs.promises.put_behavior.Goals as goal

pub loop-claim-preserved : goal.loop-claim-preserved
loop-claim-preserved g c m k =
    let p = facts_in c.args.frame in
    let s = shape_in c.args.frame k in
    let texts = g.T.Texts.text c.args.texts.now in
    let ss = states (view_state c.args.state.now) in
    let plain = c.args.is_plain in
    let b = c.args.behavior.now in
    let f = promised_by p s texts ss m plain b in
    let i = c.loop-claim.claim-index in
    let old = c.loop-claim.made in
    let all = map view_asked c.args.made.now ++ map f b.ensures_ in
    let same : c.as_slice-claim-items.result.now ≡ b.ensures_ = c.as_slice-claim-items.ensures in
    let x = c.claim-item.result in
    let lt = subst (λ (xs : List Claim). i < length xs) same c.loop-claim-test.true in
    let is = subst (λ (xs : List Claim). x ≡ get_or xs i x) same c.claim-item.is in
    let push = ap (map view_asked) c.in_ok-push.ensures.ok ∙ map_push view_asked old c.in_ok-asked.asked ∙ ap (λ t. map view_asked old ++ t ∷ []) (c.in_ok-asked.ensures m k) in
    list_step f b.ensures_ i x (map view_asked old) (map view_asked c.push.new.self) all lt is (c.loop-claim.invariant m k) push

pub returns : goal.returns
returns g c m k =
    let p = facts_in c.args.frame in
    let s = shape_in c.args.frame k in
    let texts = g.T.Texts.text c.args.texts.now in
    let ss = states (view_state c.args.state.now) in
    let plain = c.args.is_plain in
    let b = c.args.behavior.now in
    let f = promised_by p s texts ss m plain b in
    let i = c.loop-claim.claim-index in
    let old = c.loop-claim.made in
    let all = map view_asked c.args.made.now ++ map f b.ensures_ in
    let same : c.as_slice-claim-items.result.now ≡ b.ensures_ = c.as_slice-claim-items.ensures in
    let over = subst (λ (xs : List Claim). length xs ≤ i) same c.loop-claim-test.false in
    list_done f b.ensures_ i (map view_asked old) all over (c.loop-claim.invariant m k) ∙ ap (λ xs. map view_asked c.args.made.now ++ xs) (promised_are p s texts ss m plain b)
