use Rattle.std.proofs.Common.{◌≡◌, List, map, drop, All}
use Rattle.qed_terms.specs.Tree.{Tree}
use Rattle.tree_places.specs.Tables.{Grows}
use Rattle.tree_places.specs.View.{nodes_of, IsKept}
use Rattle.congruence.specs.Closed.{IsClosed}
use Rattle.instance_candidates.specs.Ids.{meeting_of, order_of, MeetingHeld}
use Rattle.instance_candidates.proofs.GivenLaws.{Comes}
use Rattle.instance_candidates.proofs.classes.given_meetings.Given as goal

abbrev pub invariant-loop-meeting : goal.invariant-loop-meeting
invariant-loop-meeting g l =
    let tree = g.S.TermStore.tree l.store in
    record {
      kept : IsKept l.table;
      grows : Grows (nodes_of l.initial.table) (nodes_of l.table);
      held : All (MeetingHeld (g.S.TermStore.held l.store)) l.given.items;
      comes : (ls : List Tree) → IsClosed ls (nodes_of l.initial.table) l.closed.marks.items l.closed.classes.items
          → Comes ls (map (meeting_of tree) l.meetings) (map (order_of tree) l.given.items) (map (meeting_of tree) (drop l.meeting-index l.meetings));
    }
