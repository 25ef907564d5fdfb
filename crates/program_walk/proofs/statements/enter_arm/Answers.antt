use Rattle.std.proofs.Common.{◌∷◌, [], true, ap, subst, ◌∙◌}
use Rattle.plain_states.specs.Slots.{Sizes, sizes_of}
use Rattle.walk_frames.specs.View.{facts_in, variables_in}
use Rattle.program_steps.specs.Words as words
use Rattle.step_walks.specs.View.{view_state}
use Rattle.step_walks.specs.Walks.{Held, Walks, now_knows}
use Rattle.walk_frames.specs.Words.{Still}
use Rattle.program_walk.proofs.statements.enter_arm.Goals as goal

pub returns : goal.returns
returns c m k f gs h =
    let bases = c.args.frame.bases.now in
    let known = c.in_ok-know.ensures ∙ ap (λ t. now_knows (view_state c.args.state.now) (t ∷ [])) c.in_ok-formula.ensures in
    subst (λ (p : Held). Walks bases (words.drop m (sizes_of (facts_in c.args.frame) (variables_in c.args.frame)) k f) p (view_state c.drop_unused.new.state) (Still gs) (Still gs) true) known
    (subst (λ (z : Sizes). Walks bases (words.drop m z k f) (view_state c.know.new.state) (view_state c.drop_unused.new.state) (Still gs) (Still gs) true) c.sizes_in-sizes.ensures
    (c.in_ok-drop_unused.ensures m bases k f gs h))
