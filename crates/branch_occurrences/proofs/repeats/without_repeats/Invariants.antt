use Rattle.std.proofs.Common.{◌≡◌, [], map, All}
use Rattle.qed_rules.specs.Rules.{drop_repeats}
use Rattle.tree_places.specs.Tables.{Grows}
use Rattle.tree_places.specs.View.{nodes_of, IsKept}
use Rattle.branch_occurrences.specs.Marked.{AreMarked}
use Rattle.branch_occurrences.proofs.FirstPlaces.{RestIs}
use Rattle.branch_occurrences.proofs.repeats.without_repeats.Given as goal

abbrev pub invariant-loop-id : goal.invariant-loop-id
invariant-loop-id g l =
    let tree = g.S.TermStore.tree l.store in
    record {
      kept : IsKept l.table;
      grows : Grows (nodes_of l.initial.table) (nodes_of l.table);
      held : All (g.S.TermStore.held l.store) l.left.items;
      marked : AreMarked tree (nodes_of l.table) l.left.items l.marks.items;
      rest : RestIs tree l.left.items l.ids l.id-index (drop_repeats [] (map tree l.ids));
    }
