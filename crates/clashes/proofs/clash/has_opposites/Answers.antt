use Rattle.std.proofs.Common.{◌<◌, length, map, get_or, refl, sym, subst, arith}
use Rattle.same_places.specs.Same.{at}
use Rattle.tree_places.specs.View.{numbers_of, find_in, nodes_of}
use Rattle.term_forms.specs.Forms.{tree_of, count_of}
use Rattle.clashes.specs.Kinds.{IsOpposite}
use Rattle.clashes.specs.Seen.{place_in, AreSeen, IsOppositeThere}
use Rattle.clashes.proofs.Listed.{found_at, none_at, among_at}
use Rattle.clashes.proofs.Together.{opposite_to, opposite_from}
use Rattle.clashes.proofs.clash.has_opposites.Goals as goal

pub returns-then-is_opposite : goal.returns-then-is_opposite
returns-then-is_opposite c =
    let table = c.args.table.now in
    let tree = tree_of table in
    let ks = c.args.literals.now in
    let ls = map tree ks in
    let i = c.loop-literal.literal-index in
    let classes = c.args.closed.now.classes.items in
    let seen = place_in c.in_ok-seen.seen.entries in
    let value = c.as_slice-classes.ensures.value in
    let all = subst (λ cs. AreSeen (at cs) ks (length ks) seen) value c.in_ok-seen.ensures in
    let there = subst (λ cs. IsOppositeThere tree (count_of table) (at cs) seen (get_or ks i 0)) value c.if-is_opposite.ensures in
    found_at (IsOpposite ls) tree ks i c.loop-literal-test.true
    (opposite_to ls (nodes_of table) c.args.closed.now.marks.items classes (numbers_of table.heads) (find_in table.places.entries) c.requires.kept.table c.requires.closed ks c.requires.below refl seen all (get_or ks i 0) (among_at tree ks i c.loop-literal-test.true) there)

pub returns : goal.returns
returns c =
    let table = c.args.table.now in
    let tree = tree_of table in
    let ks = c.args.literals.now in
    let ls = map tree ks in
    let classes = c.args.closed.now.classes.items in
    let seen = place_in c.in_ok-seen.seen.entries in
    let value = c.as_slice-classes.ensures.value in
    let all = subst (λ cs. AreSeen (at cs) ks (length ks) seen) value c.in_ok-seen.ensures in
    let end = c.loop-literal-test.false in
    none_at (IsOpposite ls) tree ks (λ i l o.
    let k : i < c.loop-literal.literal-index = omega (arith, l, end) in
    let there = opposite_from ls (nodes_of table) c.args.closed.now.marks.items classes (numbers_of table.heads) (find_in table.places.entries) c.requires.kept.table c.requires.closed ks c.requires.below refl seen all (get_or ks i 0) o in
    c.loop-literal.invariant i k (subst (λ cs. IsOppositeThere tree (count_of table) (at cs) seen (get_or ks i 0)) (sym value) there))
