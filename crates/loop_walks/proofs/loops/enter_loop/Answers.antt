use Rattle.step_walks.specs.View.{view_state}
use Rattle.step_walks.proofs.Walking.{seq_goes}
use Rattle.walk_frames.proofs.Moving.{moved}
use Rattle.loop_walks.proofs.Passing.{begun_at}
use Rattle.loop_walks.proofs.loops.enter_loop.Goals as goal

pub returns : goal.returns
returns g c first m k os = record {
  entry = view_state c.ask_inside.new.state;
  sink = c.ask_inside.new.sink;
  head = view_state c.come_to_head.new.state;
  asked = c.in_ok-ask_inside.ensures first m k os;
  walks = begun_at c.in_ok-remember.ensures (seq_goes (c.in_ok-ask_entry.ensures first m k os) (moved (c.in_ok-come_to_head.ensures m k os)));
  remembered = c.in_ok-remember-2.ensures;
}
