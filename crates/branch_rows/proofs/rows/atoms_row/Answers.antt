use Rattle.std.proofs.Common.{rules, ◌≡◌, true, ap, sym, ◌∙◌}
use Rattle.qed_terms.specs.Tree.{head_of}
use Rattle.same_places.specs.View.{row_of}
use Rattle.same_terms.specs.Stands.{StandsFor, over_atoms}
use Rattle.same_terms.specs.Written.{is_sum}
use Rattle.tree_places.specs.View.{numbers_of}
use Rattle.term_forms.specs.Forms.{tree_of, count_of}
use Rattle.term_forms.proofs.Nodes.{head_there}
use Rattle.branch_rows.proofs.Rowing.{atoms_row_of}
use Rattle.branch_rows.proofs.rows.atoms_row.Goals as goal

pub returns-then-not-is_sum-clause-row : goal.returns-then-not-is_sum-clause-row
returns-then-not-is_sum-clause-row c =
    ap is_sum (sym (head_there c.args.table.now c.requires.kept c.args.place c.node_there.result.now c.node_there.ensures)) ∙ sym c.is_sum.ensures ∙ c.if-not-is_sum.true

pub returns-clause-row : goal.returns-clause-row
returns-clause-row c =
    let sum : is_sum (head_of (tree_of c.args.table.now c.args.place)) ≡ true = ap is_sum (sym (head_there c.args.table.now c.requires.kept c.args.place c.node_there.result.now c.node_there.ensures)) ∙ sym c.is_sum.ensures ∙ c.if-not-is_sum.false in
    let stands : StandsFor (numbers_of c.atoms_label.new.table.heads) c.in_ok-label.label (over_atoms c.in_ok-form.form.constant) = search rules in
    atoms_row_of (tree_of c.args.table.now) (numbers_of c.atoms_label.new.table.heads) (count_of c.args.table.now) c.args.place c.in_ok-label.label c.in_ok-form.form (row_of c.class_row.result) c.class_row.ensures.place c.class_row.ensures.label c.class_row.ensures.parts sum stands c.in_ok-form.ensures.form c.in_ok-form.ensures.below
