use Rattle.std.proofs.Common.{map, sym, ◌∙◌}
use Rattle.tree_places.specs.View.{numbers_of, find_in, nodes_of}
use Rattle.added_instances.proofs.Told.{old_true, old_marked, new_unmarked}
use Rattle.added_instances.proofs.additions.new_place.Goals as goal

pub returns-then-is_true-clause-new : goal.returns-then-is_true-clause-new
returns-then-is_true-clause-new g c ids r =
    let tree = g.S.TermStore.tree c.args.store.now in
    old_true (map tree ids) (tree c.args.id) (sym c.is_true.ensures ∙ c.if-is_true.true)

pub returns-then-is_marked-clause-new : goal.returns-then-is_marked-clause-new
returns-then-is_marked-clause-new g c ids r =
    let tree = g.S.TermStore.tree c.args.store.now in
    let old = c.args.table.now in
    let new = c.place_of.new.table in
    old_marked tree (nodes_of old) (nodes_of new) (numbers_of old.heads) (numbers_of new.heads) (find_in old.places.entries) (find_in new.places.entries) c.requires.kept.table c.in_ok-place.ensures.kept.table
    c.in_ok-place.ensures.grows c.in_ok-place.place c.args.id c.in_ok-place.ensures.below c.in_ok-place.ensures.tree ids c.args.marks.now r (sym c.if-is_marked.true ∙ c.is_marked.ensures)

pub returns-clause-new : goal.returns-clause-new
returns-clause-new g c ids r =
    let tree = g.S.TermStore.tree c.args.store.now in
    let old = c.args.table.now in
    let new = c.place_of.new.table in
    new_unmarked tree (nodes_of old) (nodes_of new) (numbers_of old.heads) (numbers_of new.heads) (find_in old.places.entries) (find_in new.places.entries) c.requires.kept.table c.in_ok-place.ensures.kept.table
    c.in_ok-place.ensures.grows c.in_ok-place.place c.args.id c.in_ok-place.ensures.below c.in_ok-place.ensures.tree ids c.args.marks.now r (sym c.is_true.ensures ∙ c.if-is_true.false) (sym c.if-is_marked.false ∙ c.is_marked.ensures)
