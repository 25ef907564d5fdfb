use Rattle.std.proofs.Common.{◌≡◌, ◌<◌, ◌≤◌, ◌++◌, [], ◌∷◌, List, map, length, get_or, sym, ap, ◌∙◌, subst}
use Rattle.std.proofs.lemmas.List.{map_push}
use Rattle.core_trees.specs.declared.claims.Claim.{Claim}
use Rattle.core_trees.specs.View.{view_claim}
use Rattle.qed_terms.specs.View.{formula_tree}
use Rattle.program_steps.specs.Leaves.{fill}
use Rattle.program_steps.specs.Starting.{start_claim, start_assumed}
use Rattle.program_steps.specs.Words.{under}
use Rattle.program_trees.specs.View.{view_behavior}
use Rattle.step_walks.specs.View.{view_state}
use Rattle.step_walks.specs.Walks.{states}
use Rattle.walk_frames.specs.View.{facts_in, shape_in}
use Rattle.walk_frames.proofs.Over.{under_filled}
use Rattle.function_walks.proofs.Requiring.{list_step, list_done}
use Rattle.function_walks.proofs.Requirements.{required_by, required_are}
use Rattle.function_walks.proofs.known.put_behavior.Goals as goal

pub loop-claim-preserved : goal.loop-claim-preserved
loop-claim-preserved g c m k =
    let p = facts_in c.args.frame in
    let s = shape_in c.args.frame k in
    let texts = g.T.Texts.text c.args.texts.now in
    let ss = states (view_state c.args.state.now) in
    let plain = c.args.is_plain in
    let b = c.args.behavior.now in
    let f = required_by m p s texts ss plain b in
    let i = c.loop-claim.claim-index in
    let x = c.claim-item.result in
    let old = c.loop-claim.known.items in
    let same : c.as_slice-claim-items.result.now ≡ b.requires_ = c.as_slice-claim-items.ensures in
    let lt = subst (λ (xs : List Claim). i < length xs) same c.loop-claim-test.true in
    let is = subst (λ (xs : List Claim). x ≡ get_or xs i x) same c.claim-item.is in
    let assumed = start_assumed m p s texts (view_behavior b) in
    let made =
    c.in_ok-under.ensures k ∙ ap (under plain (fill ss assumed)) (c.in_ok-required.ensures k) ∙ sym (under_filled ss plain assumed (start_claim m p s texts (view_claim x))) in
    let push = ap (map formula_tree) c.in_ok-push.ensures.items ∙ map_push formula_tree old c.in_ok-under.under ∙ ap (λ t. map formula_tree old ++ t ∷ []) made in
    list_step f b.requires_ i x (map formula_tree old) (map formula_tree c.push.new.self.items) (map formula_tree c.args.known.now.items ++ map f b.requires_) lt is (c.loop-claim.invariant m k) push

pub returns : goal.returns
returns g c m k =
    let p = facts_in c.args.frame in
    let s = shape_in c.args.frame k in
    let texts = g.T.Texts.text c.args.texts.now in
    let ss = states (view_state c.args.state.now) in
    let plain = c.args.is_plain in
    let b = c.args.behavior.now in
    let f = required_by m p s texts ss plain b in
    let same : c.as_slice-claim-items.result.now ≡ b.requires_ = c.as_slice-claim-items.ensures in
    let over = subst (λ (xs : List Claim). length xs ≤ c.loop-claim.claim-index) same c.loop-claim-test.false in
    list_done f b.requires_ c.loop-claim.claim-index (map formula_tree c.loop-claim.known.items) (map formula_tree c.args.known.now.items ++ map f b.requires_) over (c.loop-claim.invariant m k)
    ∙ ap (λ ts. map formula_tree c.args.known.now.items ++ ts) (required_are m p s texts ss plain b)
