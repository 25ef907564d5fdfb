use Rattle.std.proofs.Common.{rules, ◌≡◌, ap, ◌∙◌}
use Rattle.walk_words.specs.View.{exits_at, view_world}
use Rattle.step_walks.specs.View.{view_state}
use Rattle.step_walks.specs.Ways.{now_put_back}
use Rattle.program_walk.proofs.scopes.close_scope.Goals as goal

pub returns : goal.returns
returns c k =
    let slice : c.as_slice.result.now ≡ c.in_ok-places.places.items = search (rules, c.as_slice.ensures.value) in
    c.in_ok-end_scope.ensures ∙ ap (λ is. now_put_back is (view_world c.args.before.now) (exits_at c.args.outer.items) (view_state c.args.state.now)) (slice ∙ c.in_ok-places.ensures k)
