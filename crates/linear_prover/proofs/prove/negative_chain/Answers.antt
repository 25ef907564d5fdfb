use Rattle.std.proofs.Common.{length, map, sym, subst}
use Rattle.linear_chains.specs.Chains.{AreOrdered}
use Rattle.linear_chains.specs.View.{link_of, Answers}
use Rattle.same_places.specs.Same.{at}
use Rattle.tree_places.specs.View.{nodes_of}
use Rattle.term_forms.specs.Forms.{tree_of}
use Rattle.branch_links.specs.Numbered.{At}
use Rattle.class_links.specs.ClassForms.{number_for}
use Rattle.linear_prover.proofs.Deciding.{told_apart, are_ordered, none_refute, some_refute, stand_there}
use Rattle.linear_prover.proofs.prove.negative_chain.Goals as goal

pub refutation-requires : goal.refutation-requires
refutation-requires c =
    let tree = tree_of c.args.table.now in
    let ns = nodes_of c.args.table.now in
    let ls = map tree c.args.literals.now in
    let marks = c.args.closed.now.marks.items in
    let xs = c.args.closed.now.classes.items in
    let links = map link_of c.in_ok-all.all.links.items in
    let literals = c.in_ok-all.all.literals.items in
    let tells = told_apart ls ns marks xs c.requires.closed in
    let stand = stand_there ls ns marks xs c.as_slice.result.now c.as_slice-2.result.now (number_for c.in_ok-numbers.numbers.entries) links literals c.requires.closed c.as_slice.ensures.value c.as_slice-2.ensures.value c.in_ok-numbers.ensures c.in_ok-all.ensures in
    subst (λ ys. AreOrdered (map link_of ys)) (sym c.as_slice-3.ensures.value) (are_ordered ls (length xs) tree (at xs) links literals tells stand)

pub returns-in_default : goal.returns-in_default
returns-in_default c =
    let tree = tree_of c.args.table.now in
    let ns = nodes_of c.args.table.now in
    let ls = map tree c.args.literals.now in
    let marks = c.args.closed.now.marks.items in
    let xs = c.args.closed.now.classes.items in
    let links = map link_of c.in_ok-all.all.links.items in
    let literals = c.in_ok-all.all.literals.items in
    let tells = told_apart ls ns marks xs c.requires.closed in
    let stand = stand_there ls ns marks xs c.as_slice.result.now c.as_slice-2.result.now (number_for c.in_ok-numbers.numbers.entries) links literals c.requires.closed c.as_slice.ensures.value c.as_slice-2.ensures.value c.in_ok-numbers.ensures c.in_ok-all.ensures in
    let told = subst (λ ys. Answers (map link_of ys) c.in_ok-found.field-0) c.as_slice-3.ensures.value c.in_ok-found.ensures in
    none_refute ls (length xs) tree (at xs) links literals tells stand (rw c.in_default.is at told)

pub returns-in-Some-2 : goal.returns-in-Some-2
returns-in-Some-2 c =
    let tree = tree_of c.args.table.now in
    let ns = nodes_of c.args.table.now in
    let ls = map tree c.args.literals.now in
    let marks = c.args.closed.now.marks.items in
    let xs = c.args.closed.now.classes.items in
    let links = map link_of c.in_ok-all.all.links.items in
    let literals = c.in_ok-all.all.literals.items in
    let tells = told_apart ls ns marks xs c.requires.closed in
    let stand = stand_there ls ns marks xs c.as_slice.result.now c.as_slice-2.result.now (number_for c.in_ok-numbers.numbers.entries) links literals c.requires.closed c.as_slice.ensures.value c.as_slice-2.ensures.value c.in_ok-numbers.ensures c.in_ok-all.ensures in
    let told = subst (λ ys. Answers (map link_of ys) c.in_ok-found.field-0) c.as_slice-3.ensures.value c.in_ok-found.ensures in
    let refuted = rw c.in-Some.is at told in
    let taken = rw c.in-Some-2.is at c.in_ok-taken.ensures in
    let there = subst (λ ys. At ys c.as_slice-5.result.now c.in-Some-2.taken.items) c.as_slice-4.ensures.value taken in
    some_refute ls (length xs) tree (at xs) links literals tells stand c.in-Some.found.places.items c.in-Some.found.total c.in-Some-2.taken.items refuted (subst (λ ys. At literals ys c.in-Some-2.taken.items) c.as_slice-5.ensures.value there)
