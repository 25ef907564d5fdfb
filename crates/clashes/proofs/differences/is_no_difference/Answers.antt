use Rattle.std.proofs.Common.{ap, ◌∙◌}
use Rattle.qed_terms.specs.Tree.{not_of}
use Rattle.same_places.specs.Same.{at}
use Rattle.tree_places.specs.View.{numbers_of, find_in, nodes_of}
use Rattle.term_forms.specs.Forms.{tree_of}
use Rattle.clashes.specs.Kinds.{IsNoDifference}
use Rattle.clashes.specs.Sums.{Cancel}
use Rattle.clashes.proofs.Together.{told_also, no_difference_to, no_difference_from}
use Rattle.clashes.proofs.differences.is_no_difference.Goals as goal

pub returns : goal.returns
returns c = λ ls marks is m.
    let table = c.args.table.now in
    let ns = nodes_of table in
    let number = numbers_of table.heads in
    let find = find_in table.places.entries in
    let classes = c.args.classes.now in
    let k = c.args.literal in
    let sides = c.in-Some-sides.ensures in
    let a = c.in-Some-sides.sides.0 in
    let b = c.in-Some-sides.sides.1 in
    let e = c.in-Some.ensures.1 ∙ ap not_of sides.2 in
    let left = c.in_ok-left.left in
    let right = c.in_ok-right.right in
    let x = c.in_ok-left.ensures in
    let y = c.in_ok-right.ensures in
    told_also c.in_ok-answer.answer (Cancel (at classes) left right) (IsNoDifference ls (tree_of table k))
    (no_difference_to ls ns marks classes number find c.requires.kept.table is k a b m sides.0 sides.1 e left right x.form y.form x.below y.below)
    (no_difference_from ls ns marks classes number find c.requires.kept.table is k a b m sides.0 sides.1 e left right x.form y.form x.below y.below)
    c.in_ok-answer.ensures
