use Rattle.std.proofs.Common.{◌∙◌, ap}
use Rattle.step_walks.specs.View.{view_state}
use Rattle.step_walks.specs.Walks.{now_forgets}
use Rattle.loop_walks.proofs.loops.leave_loop.Goals as goal

pub returns : goal.returns
returns g c first m k os = record {
  end = view_state c.ask_end.new.state;
  ends = c.in_ok-ask_end.ensures first m k os;
  forgotten = c.forget-2.ensures ∙ ap now_forgets c.forget.ensures;
}
