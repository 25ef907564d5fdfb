use Rattle.binder_tables.specs.View.{view_table}
use Rattle.checked_trees.specs.View.{view_checked_function, view_checked_program}
use Rattle.logic_texts.specs.Laws.{texts_by}
use Rattle.qed_terms.specs.View.{view_setting}
use Rattle.typed_unit.specs.View.{view_body, view_typed}
use Rattle.wp_words.specs.CommandView.{view_wanted}
use Rattle.file_reports.specs.View.{view_page}
use Rattle.file_reports.proofs.Found.{is_found, is_missing, if_so}
use Rattle.file_reports.proofs.Walked.{none_put, lines_put}
use Rattle.file_reports.proofs.bodies.put_body.Goals as goal

pub returns-in-Some : goal.returns-in-Some
returns-in-Some c kinds closed =
    let n = c.args.body.now.function in
    let f = view_checked_function c.in-Some.function.now in
    let found = is_found view_checked_function c.as_slice.result.now c.args.program.now.functions n c.in-Some.function.now c.in-Some.ensures c.as_slice.ensures in
    if_so c.put_function.result
    (lines_put (view_wanted c.args.judge.wanted) (view_setting c.args.judge.order.now.setting) (view_typed c.args.typed.now) (view_checked_program c.args.program.now) (texts_by (view_table c.args.table.now) c.args.judge.order.now) c.args.file.now kinds (view_body c.args.body.now) f c.args.bases.now
    (view_page c.args.page.now) (view_page c.put_function.new.page) found c.requires)
    (c.put_function.ensures (kinds n) (closed n f found))

pub returns-in-None : goal.returns-in-None
returns-in-None c kinds closed =
    let n = c.args.body.now.function in
    none_put (view_wanted c.args.judge.wanted) (view_setting c.args.judge.order.now.setting) (view_typed c.args.typed.now) (view_checked_program c.args.program.now) (texts_by (view_table c.args.table.now) c.args.judge.order.now) c.args.file.now kinds (view_body c.args.body.now) (view_page c.args.page.now)
    (is_missing view_checked_function c.as_slice.result.now c.args.program.now.functions n c.in-None.ensures c.as_slice.ensures)
