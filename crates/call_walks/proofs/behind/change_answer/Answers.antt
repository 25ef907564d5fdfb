use Rattle.std.proofs.Common.{◌≡◌, List, true, sym, subst}
use Rattle.walk_frames.specs.Words.{Still}
use Rattle.call_words.specs.Words.{answer_step}
use Rattle.step_walks.proofs.Walking.{skip_walks}
use Rattle.step_walks.specs.View.{view_state}
use Rattle.step_walks.specs.Walks.{Held, Walks, states}
use Rattle.walk_frames.specs.View.{facts_in, shape_in, variables_in, view_point}
use Rattle.call_walks.proofs.behind.change_answer.Goals as goal

pub returns-in_ok-change_result-in-Some : goal.returns-in_ok-change_result-in-Some
returns-in_ok-change_result-in-Some c m k tx ct functions gs =
    subst (λ o. Walks c.args.frame.bases.now (answer_step m (facts_in c.args.frame) (shape_in c.args.frame k) tx ct functions o) (view_state c.args.state.now) (view_state c.change_result.new.state) (Still gs) (Still gs) true)
    (sym c.in-Some.is) (c.in_ok-change_result-in-Some.ensures m k tx ct functions gs)

pub returns-in-None : goal.returns-in-None
returns-in-None c m k tx ct functions gs =
    subst (λ o. Walks c.args.frame.bases.now (answer_step m (facts_in c.args.frame) (shape_in c.args.frame k) tx ct functions o) (view_state c.args.state.now) (view_state c.args.state.now) (Still gs) (Still gs) true)
    (sym c.in-None.is) skip_walks
