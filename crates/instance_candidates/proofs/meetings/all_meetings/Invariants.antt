use Rattle.std.proofs.Common.{◌≡◌, ◌++◌, map, drop, All}
use Rattle.instance_candidates.specs.Ids.{meeting_of, MeetingHeld}
use Rattle.instance_candidates.proofs.MeetingLaws.{pairs}
use Rattle.instance_candidates.proofs.meetings.all_meetings.Given as goal

abbrev pub invariant-loop-at : goal.invariant-loop-at
invariant-loop-at g l =
    let tree = g.S.TermStore.tree l.store in
    record {
      held : All (MeetingHeld (g.S.TermStore.held l.store)) l.meetings.items;
      rest : map (meeting_of tree) l.meetings.items ++ pairs tree (drop l.at l.loads) ≡ pairs tree l.loads;
    }
