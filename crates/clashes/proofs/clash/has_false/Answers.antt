use Rattle.std.proofs.Common.{◌≡◌, ◌<◌, map, refl, subst, arith}
use Rattle.qed_terms.specs.Tree.{false_tree}
use Rattle.same_terms.specs.SameTerms.{Among}
use Rattle.term_forms.specs.Forms.{tree_of}
use Rattle.clashes.proofs.Listed.{among_at, none_at}
use Rattle.clashes.proofs.clash.has_false.Goals as goal

pub returns-then-is_false : goal.returns-then-is_false
returns-then-is_false c =
    let tree = tree_of c.args.table.now in
    let ks = c.args.literals.now in
    subst (λ t. Among t (map tree ks)) c.if-is_false.ensures (among_at tree ks c.loop-literal.literal-index c.loop-literal-test.true)

pub returns : goal.returns
returns c = λ m.
    let tree = tree_of c.args.table.now in
    let end = c.loop-literal-test.false in
    none_at (λ t. t ≡ false_tree) tree c.args.literals.now (λ i l s. let k : i < c.loop-literal.literal-index = omega (arith, l, end) in c.loop-literal.invariant i k s) (false_tree, m, refl)
