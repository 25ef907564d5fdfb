use Rattle.std.proofs.Common.{◌≡◌, ◌<◌, ◌++◌, length, map, subst, sym, ap, ◌∙◌}
use Rattle.std.specs.Prelude.{All}
use Rattle.same_places.specs.View.{row_of}
use Rattle.tree_places.specs.Tables.{tree_at}
use Rattle.tree_places.specs.View.{numbers_of, find_in, nodes_of}
use Rattle.term_rests.specs.Rests.{AreRests}
use Rattle.branch_rows.specs.Branch.{rest_places}
use Rattle.branch_rows.specs.Marks.{mark_at, AreMarks}
use Rattle.branch_rows.specs.Rows.{AreRows}
use Rattle.branch_rows.proofs.Standing.{roots_below, mark_branch, stand, literals_below, literals_same}
use Rattle.branch_rows.proofs.branch.branch_rows.Goals as goal

pub marks_under-requires-clause-below : goal.marks_under-requires-clause-below
marks_under-requires-clause-below c =
    let old = nodes_of c.args.table.now in
    let ns = nodes_of c.branch_pairs.new.table in
    let literals = c.args.literals.now in
    let ls = map (tree_at old) literals in
    let grows = c.in_ok-pairs.ensures.grows in
    let roots = c.as_slice-2.ensures.value ∙ c.in_ok-roots.ensures ∙ ap (λ ps. literals ++ rest_places ps) c.as_slice.ensures.value in
    subst (λ xs. All (λ k. k < length ns) xs) (sym roots)
    (roots_below ls ns literals c.in_ok-pairs.pairs.items (literals_same old ns literals c.requires.kept.table.all grows c.requires.below) c.in_ok-pairs.ensures.pairs (literals_below old ns literals grows c.requires.below))

pub returns-clause-marks : goal.returns-clause-marks
returns-clause-marks c =
    let old = nodes_of c.args.table.now in
    let ns = nodes_of c.branch_pairs.new.table in
    let ms = nodes_of c.marked_rows.new.table in
    let literals = c.args.literals.now in
    let pairs = c.in_ok-pairs.pairs.items in
    let marks = c.in_ok-marks.marks.items in
    let ls = map (tree_at old) literals in
    let same = literals_same old ns literals c.requires.kept.table.all c.in_ok-pairs.ensures.grows c.requires.below in
    let nodes : ns ≡ ms = sym c.in_ok-rows.ensures.nodes in
    let roots = c.as_slice-2.ensures.value ∙ c.in_ok-roots.ensures ∙ ap (λ ps. literals ++ rest_places ps) c.as_slice.ensures.value in
    let marked = subst (λ rs. AreMarks ms rs marks) roots (subst (λ zs. AreMarks zs c.as_slice-2.result.now marks) nodes c.in_ok-marks.ensures) in
    let are = subst (λ zs. map (tree_at zs) literals ≡ ls) nodes same in
    let rests = subst (λ zs. AreRests (length zs) (tree_at zs) ls pairs) nodes c.in_ok-pairs.ensures.pairs in
    mark_branch ls ms literals pairs are rests marks marked

pub returns-clause-stand : goal.returns-clause-stand
returns-clause-stand c =
    let old = nodes_of c.args.table.now in
    let ns = nodes_of c.branch_pairs.new.table in
    let ms = nodes_of c.marked_rows.new.table in
    let literals = c.args.literals.now in
    let pairs = c.in_ok-pairs.pairs.items in
    let marks = c.in_ok-marks.marks.items in
    let ls = map (tree_at old) literals in
    let grows = c.in_ok-pairs.ensures.grows in
    let same = literals_same old ns literals c.requires.kept.table.all grows c.requires.below in
    let nodes : ns ≡ ms = sym c.in_ok-rows.ensures.nodes in
    let roots = c.as_slice-2.ensures.value ∙ c.in_ok-roots.ensures ∙ ap (λ ps. literals ++ rest_places ps) c.as_slice.ensures.value in
    let marked = subst (λ rs. AreMarks ms rs marks) roots (subst (λ zs. AreMarks zs c.as_slice-2.result.now marks) nodes c.in_ok-marks.ensures) in
    let are = subst (λ zs. map (tree_at zs) literals ≡ ls) nodes same in
    let rests = subst (λ zs. AreRests (length zs) (tree_at zs) ls pairs) nodes c.in_ok-pairs.ensures.pairs in
    let below = subst (λ zs. All (λ k. k < length zs) literals) nodes (literals_below old ns literals grows c.requires.below) in
    let table = c.marked_rows.new.table in
    let rows = map row_of c.in_ok-rows.rows.items in
    let so = subst (λ xs. AreRows (tree_at ms) (numbers_of table.heads) (length ms) (mark_at xs) (length ms) rows) c.as_slice-3.ensures.value c.in_ok-rows.ensures.rows in
    stand ls ms literals pairs are rests marks marked (numbers_of table.heads) (find_in table.places.entries) table.heads.count rows c.in_ok-rows.ensures.kept.heads c.in_ok-rows.ensures.kept.table below so
