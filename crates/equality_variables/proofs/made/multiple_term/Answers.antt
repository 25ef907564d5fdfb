use Rattle.std.proofs.Common.{◌∙◌, ap}
use Rattle.std.specs.Prelude.{pos}
use Rattle.std.specs.Int.{w128}
use Rattle.std.specs.Ordering.{int_eq}
use Rattle.std.proofs.lemmas.Int.{to_z-of_z}
use Rattle.qed_terms.specs.Tree.{num}
use Rattle.qed_terms.specs.WellFormed.{fits, int}
use Rattle.equality_variables.proofs.Sums.{told_equal, told_apart, number_fits, product_fits, one_part, times_part}
use Rattle.equality_variables.proofs.made.multiple_term.Goals as goal

pub returns-then-are_equal-clause-tree : goal.returns-then-are_equal-clause-tree
returns-then-are_equal-clause-tree g c =
    let tree = g.S.TermStore.tree c.args.store.now in
    one_part (tree c.args.atom) c.args.times (told_equal c.args.times (pos 1) c.are_equal.result (c.are_equal.ensures ∙ ap (λ z. int_eq z (pos 1)) (to_z-of_z w128 c.args.times c.ranges.times)) c.if-are_equal.true)

pub make-requires-clause-fit : goal.make-requires-clause-fit
make-requires-clause-fit g c =
    let tree = g.S.TermStore.tree c.number_term.new.store in
    let kids = c.as_slice.ensures.value ∙ c.in_ok-kids.ensures in
    let atom = c.in_ok-number.ensures.older.same_tree c.args.atom c.requires.held in
    product_fits tree c.as_slice.result.now c.in_ok-number.number c.args.atom kids (number_fits _ (tree c.in_ok-number.number) c.in_ok-number.ensures.tree) (ap (fits int) atom ∙ c.requires.fits)

pub returns-clause-tree : goal.returns-clause-tree
returns-clause-tree g c =
    let s = c.args.store.now in
    let tree = g.S.TermStore.tree c.number_term.new.store in
    let kids = c.as_slice.ensures.value ∙ c.in_ok-kids.ensures in
    let same = to_z-of_z w128 c.args.times c.ranges.times in
    let apart = told_apart c.args.times (pos 1) c.are_equal.result (c.are_equal.ensures ∙ ap (λ z. int_eq z (pos 1)) same) c.if-are_equal.false in
    times_part tree c.args.times c.as_slice.result.now c.in_ok-number.number c.args.atom (g.S.TermStore.tree s c.args.atom) (g.S.TermStore.tree c.make.new.self c.in_ok-id.id) apart (c.in_ok-number.ensures.tree ∙ ap num same)
    (c.in_ok-number.ensures.older.same_tree c.args.atom c.requires.held) kids c.in_ok-id.ensures.stands
