use Rattle.std.proofs.Common.{◌≡◌, map, ap}
use Rattle.walk_words.specs.View.{view_change}
use Rattle.call_walks.proofs.Turns.{kept_next, kept_end}
use Rattle.call_walks.proofs.changes.change_at.Goals as goal

pub loop-slot-init : goal.loop-slot-init
loop-slot-init c = ap (map view_change) c.new-made.ensures.items

pub loop-slot-preserved : goal.loop-slot-preserved
loop-slot-preserved c = kept_next c.loop-slot.made.items c.push.new.self.items c.loop-slot._slot c.loop-slot.invariant c.in_ok-push.ensures.items

pub returns : goal.returns
returns c = kept_end c.loop-slot.made.items c.push-2.new.self.items c.loop-slot._slot c.args.slot c.args.change c.loop-slot.auto._slot-end c.loop-slot-test.false c.loop-slot.invariant c.in_ok-push-2.ensures.items
