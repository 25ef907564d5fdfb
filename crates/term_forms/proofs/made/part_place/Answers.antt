use Rattle.std.proofs.Common.{rules, FitsSigned, ap, ◌∙◌}
use Rattle.std.specs.Prelude.{pos}
use Rattle.std.specs.Int.{w128}
use Rattle.std.specs.Ordering.{int_eq}
use Rattle.std.proofs.lemmas.Int.{to_z-of_z}
use Rattle.qed_terms.specs.Tree.{num}
use Rattle.tree_places.specs.View.{nodes_of}
use Rattle.tree_places.proofs.Nodes.{older}
use Rattle.term_forms.specs.Forms.{tree_of}
use Rattle.term_forms.proofs.Sums.{times_part, told_apart, told_equal, one_part}
use Rattle.term_forms.proofs.made.part_place.Goals as goal

pub returns-clause-tree : goal.returns-clause-tree
returns-clause-tree c =
    let given : FitsSigned w128 c.args.part.now.1 = search rules in
    let same = to_z-of_z w128 c.args.part.now.1 given in
    let apart = told_apart c.args.part.now.1 (pos 1) c.are_equal.result (c.are_equal.ensures ∙ ap (λ z. int_eq z (pos 1)) same) c.if-are_equal.false in
    let old = older (nodes_of c.args.table.now) (nodes_of c.number_place.new.table) c.requires.kept.table.all c.in_ok-number.ensures.grows c.args.part.now.0 c.requires.part in
    times_part (tree_of c.args.table.now) (tree_of c.number_place.new.table) c.args.part.now c.in_ok-number.number c.in_ok-kids.kids.items (tree_of c.put.new.table c.in_ok-place.place) apart (c.in_ok-number.ensures.tree ∙ ap num same) old c.in_ok-kids.ensures c.in_ok-place.ensures.tree

pub returns-then-are_equal-clause-tree : goal.returns-then-are_equal-clause-tree
returns-then-are_equal-clause-tree c =
    let given : FitsSigned w128 c.args.part.now.1 = search rules in
    one_part (tree_of c.args.table.now) c.args.part.now (told_equal c.args.part.now.1 (pos 1) c.are_equal.result (c.are_equal.ensures ∙ ap (λ z. int_eq z (pos 1)) (to_z-of_z w128 c.args.part.now.1 given)) c.if-are_equal.true)
