use Rattle.std.proofs.Common.{◌+◌, map, ap, sym, subst, ◌∙◌}
use Rattle.same_places.specs.View.{row_of}
use Rattle.tree_places.specs.View.{numbers_of}
use Rattle.term_forms.specs.Forms.{tree_of, count_of}
use Rattle.branch_rows.specs.Rows.{with_row, AreRows}
use Rattle.branch_rows.proofs.Rowing.{rows_still, kids_row_still, rows_more, place_passed}
use Rattle.branch_rows.proofs.rows.put_rows.Goals as goal

pub returns-clause-rows : goal.returns-clause-rows
returns-clause-rows c = λ marked mark are.
    let tree = tree_of c.args.table.now in
    let count = count_of c.args.table.now in
    let number = numbers_of c.args.table.now.heads in
    let number' = numbers_of c.atoms_row.new.table.heads in
    let older = c.in_ok-atoms.ensures.older in
    let rows = map row_of c.args.rows.now.items in
    let kids = c.in_ok-kids.kids in
    let atoms = c.in_ok-atoms.atoms in
    let all = c.in_ok-push_row-2.ensures ∙ ap (λ rs. with_row rs atoms) c.in_ok-push_row.ensures in
    subst (λ rs. AreRows tree number' count marked (c.args.place + 1) rs) (sym all)
    (rows_more tree number' count marked c.args.place c.requires.below (mark ∙ c.if-not-mark.false) rows kids atoms (kids_row_still tree number number' older count c.args.place kids c.in_ok-kids.ensures) c.in_ok-atoms.ensures.row (rows_still tree number number' older count marked c.args.place rows are))

pub returns-then-not-mark-clause-rows : goal.returns-then-not-mark-clause-rows
returns-then-not-mark-clause-rows c = λ marked mark are.
    place_passed (tree_of c.args.table.now) (numbers_of c.args.table.now.heads) (count_of c.args.table.now) marked c.args.place (map row_of c.args.rows.now.items) (mark ∙ c.if-not-mark.true) are
