use Rattle.std.proofs.Common.{◌≡◌, ◌++◌, map, drop, All}
use Rattle.instance_candidates.specs.Ids.{meeting_of, MeetingHeld}
use Rattle.instance_candidates.proofs.MeetingLaws.{behind}
use Rattle.instance_candidates.proofs.meetings.put_meetings.Given as goal

-- what is there and the meetings with those that are left make the whole
abbrev pub invariant-loop-at : goal.invariant-loop-at
invariant-loop-at g l =
    let tree = g.S.TermStore.tree l.store in
    record {
      held : All (MeetingHeld (g.S.TermStore.held l.store)) l.out.items;
      rest : map (meeting_of tree) l.out.items ++ behind tree l.load (drop l.at l.others) ≡ map (meeting_of tree) l.initial.out.items ++ behind tree l.load (drop l.from l.others);
    }
