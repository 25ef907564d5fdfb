use Rattle.std.proofs.Common.{◌<◌, length, get_or, sym, subst, arith}
use Rattle.same_places.specs.Same.{at}
use Rattle.tree_places.specs.View.{numbers_of, find_in, nodes_of}
use Rattle.term_forms.specs.Forms.{tree_of}
use Rattle.clashes.specs.Seen.{place_in, AreSeen, AreNumbers, DiffersThere}
use Rattle.clashes.proofs.Together.{two_numbers_to, two_numbers_from}
use Rattle.clashes.proofs.numbers.has_two_numbers.Goals as goal

pub returns-then-differs : goal.returns-then-differs
returns-then-differs c = λ ls is.
    let table = c.args.table.now in
    let tree = tree_of table in
    let marks = c.args.closed.now.marks.items in
    let classes = c.args.closed.now.classes.items in
    let ks = c.as_slice-numbers.result.now in
    let seen = place_in c.in_ok-seen.seen.entries in
    let i = c.loop-place.place-index in
    let are = subst (λ ms. AreNumbers tree ms (length ms) ks) c.as_slice.ensures.value (subst (AreNumbers tree c.as_slice.result.now (length c.as_slice.result.now)) (sym c.as_slice-numbers.ensures.value) c.in_ok-places.ensures) in
    let all = subst (λ cs. AreSeen (at cs) ks (length ks) seen) c.as_slice-classes.ensures.value c.in_ok-seen.ensures in
    let there = subst (λ cs. DiffersThere tree (at cs) seen (get_or ks i 0)) c.as_slice-classes.ensures.value c.if-differs.ensures in
    two_numbers_to ls (nodes_of table) marks classes (numbers_of table.heads) (find_in table.places.entries) c.requires.kept.table is ks are seen all i c.loop-place-test.true there

pub returns : goal.returns
returns c = λ ls is.
    let table = c.args.table.now in
    let tree = tree_of table in
    let marks = c.args.closed.now.marks.items in
    let classes = c.args.closed.now.classes.items in
    let ks = c.as_slice-numbers.result.now in
    let seen = place_in c.in_ok-seen.seen.entries in
    let are = subst (λ ms. AreNumbers tree ms (length ms) ks) c.as_slice.ensures.value (subst (AreNumbers tree c.as_slice.result.now (length c.as_slice.result.now)) (sym c.as_slice-numbers.ensures.value) c.in_ok-places.ensures) in
    let all = subst (λ cs. AreSeen (at cs) ks (length ks) seen) c.as_slice-classes.ensures.value c.in_ok-seen.ensures in
    let end = c.loop-place-test.false in
    two_numbers_from ls (nodes_of table) marks classes (numbers_of table.heads) (find_in table.places.entries) c.requires.kept.table is ks are seen all (λ i l d.
    let k : i < c.loop-place.place-index = omega (arith, l, end) in
    c.loop-place.invariant i k (subst (λ cs. DiffersThere tree (at cs) seen (get_or ks i 0)) (sym c.as_slice-classes.ensures.value) d))
