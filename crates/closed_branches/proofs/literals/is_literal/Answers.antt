use Rattle.std.proofs.Common.{◌<◌, map, length, All, sym, ap, subst, ◌∙◌}
use Rattle.tree_places.specs.Tables.{tree_at}
use Rattle.tree_places.specs.View.{numbers_of, find_in, nodes_of}
use Rattle.branch_rows.proofs.Standing.{literals_same, literals_below}
use Rattle.closed_branches.proofs.Reasons.{among_told}
use Rattle.closed_branches.proofs.literals.is_literal.Goals as goal

pub returns : goal.returns
returns g c =
    let tree = g.S.TermStore.tree c.args.store.now in
    let table = c.place_of.new.table in
    let ns = nodes_of c.literal_places.new.table in
    let ms = nodes_of table in
    let places = c.in_ok-places.places.items in
    let place = c.in_ok-place.place in
    let grows = c.in_ok-place.ensures.grows in
    let value = sym c.as_slice-2.ensures.value in
    let below = subst (λ xs. All (λ k. k < length ms) xs) value (literals_below ns ms places grows c.in_ok-places.ensures.below) in
    let older = literals_same ns ms places c.in_ok-places.ensures.kept.table.all grows c.in_ok-places.ensures.below in
    let same = ap (map (tree_at ms)) c.as_slice-2.ensures.value ∙ older ∙ c.in_ok-places.ensures.trees ∙ ap (map tree) c.as_slice.ensures in
    among_told ms (numbers_of table.heads) (find_in table.places.entries) c.in_ok-place.ensures.kept.table c.as_slice-2.result.now place (map tree c.args.branch.now.literals) (tree c.args.formula) c.stands_there-answer.result below c.in_ok-place.ensures.below same c.in_ok-place.ensures.tree c.stands_there-answer.ensures
