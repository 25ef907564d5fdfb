use Rattle.std.proofs.Common.{◌≡◌, false, ap, sym, ◌∙◌}
use Rattle.qed_terms.specs.Tree.{head_of}
use Rattle.same_places.specs.View.{row_of}
use Rattle.same_terms.specs.SameTerms.{is_binder}
use Rattle.tree_places.specs.View.{numbers_of, node_of}
use Rattle.term_forms.specs.Forms.{tree_of, count_of}
use Rattle.term_forms.proofs.Nodes.{head_there, kids_there, below_there}
use Rattle.branch_rows.specs.Rows.{numbered_places}
use Rattle.branch_rows.proofs.Rowing.{kids_row_of}
use Rattle.branch_rows.proofs.rows.kids_row.Goals as goal

pub returns-then-is_binder : goal.returns-then-is_binder
returns-then-is_binder c =
    ap is_binder (sym (head_there c.args.table.now c.requires.kept c.args.place c.node_there-node.result.now c.node_there-node.ensures)) ∙ sym c.is_binder.ensures ∙ c.if-is_binder.true

pub returns : goal.returns
returns c =
    let table = c.args.table.now in
    let node = c.node_there-node.result.now in
    let there = c.node_there-node.ensures in
    let head = head_there table c.requires.kept c.args.place node there in
    let unbound : is_binder (head_of (tree_of table c.args.place)) ≡ false = ap is_binder (sym head) ∙ sym c.is_binder.ensures ∙ c.if-is_binder.false in
    let number = ap (numbers_of table.heads) (sym head) ∙ c.requires.kept.table.numbered c.args.place (node_of node) there in
    let parts = c.class_row.ensures.parts ∙ c.in_ok-parts.ensures ∙ ap (numbered_places 0) c.as_slice.ensures.value in
    kids_row_of (tree_of table) (numbers_of table.heads) (count_of table) c.args.place node.number node.kids.items (row_of c.class_row.result) c.class_row.ensures.place (c.class_row.ensures.label ∙ c.in_ok-label.ensures) parts unbound number (kids_there table c.requires.kept c.args.place node there) (below_there table c.requires.kept c.args.place node there c.requires.below)
