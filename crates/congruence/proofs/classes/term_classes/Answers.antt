use Rattle.std.proofs.Common.{rules, ◌≡◌, length, map, subst, sym, ◌∙◌}
use Rattle.std.proofs.lemmas.List.{length-map}
use Rattle.same_places.specs.Same.{AreClasses}
use Rattle.same_places.specs.View.{row_of}
use Rattle.same_terms.specs.Stands.{StandsFor}
use Rattle.tree_places.specs.View.{numbers_of, node_of, nodes_of}
use Rattle.term_forms.specs.Forms.{tree_of}
use Rattle.congruence.proofs.SameClass.{is_closed}
use Rattle.congruence.proofs.classes.term_classes.Goals as goal

pub returns-clause-closed : goal.returns-clause-closed
returns-clause-closed c =
    let table = c.branch_rows.new.table in
    let ns = nodes_of table in
    let ls = map (tree_of c.args.table.now) c.args.literals.now in
    let rows = map row_of c.in_ok-branch.branch.rows.items in
    let pairs = c.in_ok-branch.branch.pairs.items in
    let classes = c.in_ok-classes.classes.items in
    let at : c.len-count.result ≡ length table.nodes.items = search rules in
    let count : c.len-count.result ≡ length ns = at ∙ sym (length-map table.nodes.items node_of) in
    let by_rows = subst (λ rs. AreClasses c.len-count.result (map row_of rs) c.as_slice-2.result.now classes) c.as_slice.ensures.value c.in_ok-classes.ensures in
    let by_pairs = subst (λ ps. AreClasses c.len-count.result rows ps classes) c.as_slice-2.ensures.value by_rows in
    let are = subst (λ n. AreClasses n rows pairs classes) count by_pairs in
    is_closed ls ns c.in_ok-branch.branch.marks.items classes (StandsFor (numbers_of table.heads)) rows pairs c.in_ok-branch.ensures.stand c.in_ok-branch.ensures.marks are
