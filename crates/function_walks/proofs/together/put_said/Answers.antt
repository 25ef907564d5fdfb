use Rattle.std.proofs.Common.{◌++◌, ◌∷◌, [], map, sym, ap, ◌∙◌}
use Rattle.std.proofs.lemmas.List.{map_push}
use Rattle.program_trees.specs.View.{view_behavior}
use Rattle.step_walks.specs.View.{view_state}
use Rattle.step_walks.specs.Walks.{states}
use Rattle.walk_frames.specs.Asked.{view_asked}
use Rattle.walk_frames.specs.View.{facts_in, shape_in}
use Rattle.function_walks.proofs.Behaviors.{asked_here}
use Rattle.function_walks.proofs.together.put_said.Goals as goal

pub returns : goal.returns
returns g c m k =
    let p = facts_in c.args.frame in
    let s = shape_in c.args.frame k in
    let texts = g.T.Texts.text c.args.texts.now in
    let ss = states (view_state c.args.state.now) in
    let bs = map view_behavior c.args.frame.contract.now.behaviors in
    let o = c.args.is_complete in
    let old = c.args.made.now in
    let push = ap (map view_asked) c.in_ok-push.ensures.ok ∙ map_push view_asked old c.in_ok-asked.asked ∙ ap (λ t. map view_asked old ++ t ∷ []) (c.in_ok-asked.ensures m k) in
    asked_here m p s texts ss bs o c.args.together.now (map view_asked old) (map view_asked c.push.new.self) (sym c.is_said.ensures ∙ c.if-not-is_said.false) push
