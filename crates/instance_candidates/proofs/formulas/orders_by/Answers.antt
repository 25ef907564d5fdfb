use Rattle.std.proofs.Common.{subst}
use Rattle.std.proofs.lemmas.List.Elements.{All-push, All-same}
use Rattle.qed_terms.proofs.Kept.{kept_over, held_more}
use Rattle.drawn_instances.proofs.KidLaws.{kid_held}
use Rattle.instance_candidates.specs.Ids.{MeetingHeld}
use Rattle.instance_candidates.proofs.OrderLaws.{order_more, meeting_still}
use Rattle.instance_candidates.proofs.formulas.orders_by.Goals as goal

pub order_of-requires-clause-held : goal.order_of-requires-clause-held
order_of-requires-clause-held g c =
    let tree = g.S.TermStore.tree in
    let held = g.S.TermStore.held in
    let ms = c.args.meetings.now in
    let m = c.meeting-item.result in
    meeting_still (held c.args.store.now) (held c.loop-meeting.store) (tree c.args.store.now) (tree c.loop-meeting.store) m c.loop-meeting.invariant.older
    (kid_held (MeetingHeld (held c.args.store.now)) ms c.loop-meeting.meeting-index m c.requires.held c.loop-meeting-test.true c.meeting-item.is)

pub loop-meeting-preserved : goal.loop-meeting-preserved
loop-meeting-preserved g c =
    let tree = g.S.TermStore.tree in
    let held = g.S.TermStore.held in
    let first = c.args.store.now in
    let old = c.loop-meeting.store in
    let new = c.order_of.new.store in
    let ms = c.args.meetings.now in
    let i = c.loop-meeting.meeting-index in
    let m = c.meeting-item.result in
    let made = c.loop-meeting.made.items in
    let now = c.push.new.self.items in
    let id = c.in_ok-order_of.field-0 in
    let there = kid_held (MeetingHeld (held first)) ms i m c.requires.held c.loop-meeting-test.true c.meeting-item.is in
    record {
      older = kept_over (held first) (held old) (held new) (tree first) (tree old) (tree new) c.loop-meeting.invariant.older c.in_ok-order_of.ensures.older;
      held_made = All-same (held new) now _ c.in_ok-push.ensures.items
          (All-push (held new) made id (held_more (held old) (held new) (tree old) (tree new) made c.in_ok-order_of.ensures.older c.loop-meeting.invariant.held_made) c.in_ok-order_of.ensures.held);
      orders = order_more (held first) (held old) (held new) (tree first) (tree old) (tree new) ms i m made now id c.loop-meeting.invariant.older c.in_ok-order_of.ensures.older there c.loop-meeting.invariant.held_made
          c.loop-meeting-test.true c.meeting-item.is c.in_ok-order_of.ensures.stands c.in_ok-push.ensures.items c.loop-meeting.invariant.orders;
    }
