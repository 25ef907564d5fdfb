use Rattle.instance_candidates.specs.Ids.{FormedHeld, IsFormed, MeetingHeld}
use Rattle.branch_accesses.proofs.Gathered.{held_if}
use Rattle.drawn_instances.proofs.KidLaws.{kid_held}
use Rattle.instance_candidates.proofs.MeetingLaws.{meet_more}
use Rattle.instance_candidates.proofs.meetings.put_meetings.Goals as goal

pub loop-at-preserved : goal.loop-at-preserved
loop-at-preserved g c =
    let tree = g.S.TermStore.tree c.args.store.now in
    let held = g.S.TermStore.held c.args.store.now in
    let others = c.args.others.now in
    let i = c.loop-at.at in
    let k = c.index-others-at.result in
    let b = c.in_ok-meet.meet in
    let done = c.loop-at.out.items in
    let now = c.put_if.new.out.items in
    record {
      held = held_if (MeetingHeld held) b (record { first = c.args.load.now.load; second = k.load }) done now c.loop-at.invariant.held
          (c.requires.load_held, kid_held (FormedHeld held) others i k c.requires.others_held c.loop-at-test.true c.index-others-at.is) c.in_ok-put_if.ensures;
      rest = meet_more tree c.args.load.now others i k b done now _ c.loop-at-test.true c.index-others-at.is c.in_ok-meet.ensures c.in_ok-put_if.ensures c.loop-at.invariant.rest;
    }
