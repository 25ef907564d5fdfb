use Rattle.std.proofs.Common.{◌<◌, map, get_or, sym, subst, below_more, arith}
use Rattle.std.specs.Bool.{MatchBool}
use Rattle.tree_places.specs.View.{nodes_of}
use Rattle.term_forms.specs.Forms.{tree_of}
use Rattle.congruence.specs.Closed.{IsClosed}
use Rattle.clashes.specs.Kinds.{IsNoDifference}
use Rattle.clashes.proofs.Listed.{found_at, none_at, among_at}
use Rattle.clashes.proofs.differences.has_no_difference.Goals as goal

pub loop-literal-preserved : goal.loop-literal-preserved
loop-literal-preserved c =
    let table = c.args.table.now in
    let tree = tree_of table in
    let ks = c.args.literals.now in
    let ls = map tree ks in
    let marks = c.args.closed.now.marks.items in
    let i = c.loop-literal.literal-index in
    let P = IsNoDifference ls (tree (get_or ks i 0)) in
    let is = subst (IsClosed ls (nodes_of table) marks) (sym c.as_slice-classes.ensures.value) c.requires.closed in
    let told = subst (λ b. MatchBool b P (P → ⊥)) c.if-so.false (c.in_ok-so.ensures ls marks is (among_at tree ks i c.loop-literal-test.true)) in
    below_more (λ j. IsNoDifference ls (tree (get_or ks j 0)) → ⊥) i c.loop-literal.invariant told

pub returns-then-so : goal.returns-then-so
returns-then-so c =
    let table = c.args.table.now in
    let tree = tree_of table in
    let ks = c.args.literals.now in
    let ls = map tree ks in
    let marks = c.args.closed.now.marks.items in
    let i = c.loop-literal.literal-index in
    let P = IsNoDifference ls (tree (get_or ks i 0)) in
    let is = subst (IsClosed ls (nodes_of table) marks) (sym c.as_slice-classes.ensures.value) c.requires.closed in
    let told = subst (λ b. MatchBool b P (P → ⊥)) c.if-so.true (c.in_ok-so.ensures ls marks is (among_at tree ks i c.loop-literal-test.true)) in
    found_at (IsNoDifference ls) tree ks i c.loop-literal-test.true told

pub returns : goal.returns
returns c =
    let tree = tree_of c.args.table.now in
    let ks = c.args.literals.now in
    let end = c.loop-literal-test.false in
    none_at (IsNoDifference (map tree ks)) tree ks (λ i l o. let k : i < c.loop-literal.literal-index = omega (arith, l, end) in c.loop-literal.invariant i k o)
