use Rattle.std.proofs.Common.{map}
use Rattle.memory_worlds.specs.View.{view_base}
use Rattle.memory_walks.specs.View.{view_state}
use Rattle.memory_walks.proofs.Meeting.{both_meet}
use Rattle.memory_walks.proofs.arms.meet.Goals as goal

pub returns : goal.returns
returns c p w a h =
    both_meet (map view_base c.args.bases.now) p c.args.arm c.args.first w c.args.second (view_state c.args.state.now) (view_state c.join_arms.new.state) c.if-not-first.false c.if-not-second.false a h
    (c.in_ok-join_arms.ensures p a.from h)
