use Rattle.std.proofs.Common.{◌≡◌, ◌+◌, ℕ, List, true, ap, ◌∙◌, subst}
use Rattle.plain_states.specs.Slots.{Sizes}
use Rattle.program_steps.specs.Words.{set_variable}
use Rattle.walk_frames.specs.Words.{Still}
use Rattle.step_walks.specs.View.{view_state}
use Rattle.step_walks.specs.Walks.{Held, Walks, states}
use Rattle.walk_frames.specs.View.{facts_in, shape_in, variables_in, view_point}
use Rattle.call_walks.proofs.results.receive_variable.Goals as goal

pub returns : goal.returns
returns c m t gs e =
    let bases = c.args.frame.bases.now in
    let is = c.in_ok-number.ensures ∙ ap (λ (z : Sizes). z.globals + c.args.variable) c.sizes_in.ensures in
    subst (λ x. Walks bases (set_variable m x t) (view_state c.args.state.now) (view_state c.set_to.new.state) (Still gs) (Still gs) true) is (c.in_ok-set_to.ensures m bases t gs e)
