use Rattle.std.proofs.Common.{◌++◌, ◌∙◌, ap, subst, map}
use Rattle.tree_places.specs.View.{numbers_of, find_in, nodes_of}
use Rattle.congruence.specs.Closed.{IsClosed}
use Rattle.instance_rows.specs.Candidates.{marker}
use Rattle.asked_classes.proofs.Marking.{both_there}
use Rattle.asked_classes.proofs.asked.asked_classes.Goals as goal

pub returns-clause-closed : goal.returns-clause-closed
returns-clause-closed g c =
    let tree = g.S.TermStore.tree c.args.store.now in
    let lits = c.literal_places.new.table in
    let all = c.marker_places.new.table in
    let there = both_there (nodes_of lits) (nodes_of all) (numbers_of lits.heads) (find_in lits.places.entries) c.in_ok-places.ensures.kept.table c.in_ok-markers.ensures.grows
    c.in_ok-places.places.items c.in_ok-markers.markers.items c.as_slice-2.result.now (map tree c.args.literals.now) (map marker (map tree c.args.asked.now)) c.in_ok-places.ensures.below
    c.in_ok-places.ensures.trees c.in_ok-markers.ensures.trees (c.as_slice-2.ensures.value ∙ c.in_ok-extend_from_slice.ensures.items ∙ ap (λ us. c.in_ok-places.places.items ++ us) c.as_slice.ensures.value) in
    subst (λ ls. IsClosed ls (nodes_of c.term_classes.new.table) c.in_ok-closed.closed.marks.items c.in_ok-closed.closed.classes.items) there c.in_ok-closed.ensures.closed
