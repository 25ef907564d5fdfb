use Rattle.std.proofs.Common.{map}
use Rattle.tree_places.specs.View.{nodes_of}
use Rattle.tree_places.proofs.Nodes.{grows_on}
use Rattle.congruence.proofs.SameClass.{stay_closed}
use Rattle.instance_candidates.specs.Ids.{meeting_of, MeetingHeld}
use Rattle.branch_accesses.proofs.Gathered.{held_if}
use Rattle.drawn_instances.proofs.KidLaws.{kid_held}
use Rattle.instance_candidates.proofs.GivenLaws.{given_more, given_done}
use Rattle.instance_candidates.proofs.classes.given_meetings.Goals as goal

pub loop-meeting-preserved : goal.loop-meeting-preserved
loop-meeting-preserved g c =
    let tree = g.S.TermStore.tree c.args.store.now in
    let held = g.S.TermStore.held c.args.store.now in
    let ms = c.args.meetings.now in
    let i = c.loop-meeting.meeting-index in
    let m = c.meeting-item.result in
    let b = c.in_ok-put.put in
    let done = c.loop-meeting.given.items in
    let now = c.put_if.new.out.items in
    let marks = c.args.closed.now.marks.items in
    let classes = c.args.closed.now.classes.items in
    let first = nodes_of c.args.table.now in
    let old = nodes_of c.loop-meeting.table in
    let there = kid_held (MeetingHeld held) ms i m c.requires.held c.loop-meeting-test.true c.meeting-item.is in
    record {
      kept = c.in_ok-put.ensures.kept;
      grows = grows_on first old (nodes_of c.is_given.new.table) c.loop-meeting.invariant.grows c.in_ok-put.ensures.grows;
      held = held_if (MeetingHeld held) b m done now c.loop-meeting.invariant.held there c.in_ok-put_if.ensures;
      comes = λ ls is.
          let still = stay_closed ls first old marks classes c.loop-meeting.invariant.grows is in
          given_more tree ls (map (meeting_of tree) ms) ms i m b done now c.loop-meeting-test.true c.meeting-item.is (c.in_ok-put.ensures.given ls still) c.in_ok-put_if.ensures (c.loop-meeting.invariant.comes ls is);
    }

pub returns-clause-given : goal.returns-clause-given
returns-clause-given g c = λ ls is.
    let tree = g.S.TermStore.tree c.args.store.now in
    given_done tree ls (map (meeting_of tree) c.args.meetings.now) c.args.meetings.now c.loop-meeting.meeting-index c.loop-meeting.given.items c.loop-meeting-test.false (c.loop-meeting.invariant.comes ls is)
