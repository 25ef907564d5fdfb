use Rattle.binder_tables.specs.View.{view_table}
use Rattle.c_syntax.specs.View.{view_program}
use Rattle.checked_trees.specs.View.{view_checked_program}
use Rattle.from_lines.specs.Froms.{from_lines}
use Rattle.logic_texts.specs.Laws.{texts_by}
use Rattle.qed_terms.specs.View.{view_setting}
use Rattle.source_goals.specs.Walked.{file_goals_by}
use Rattle.typed_unit.specs.View.{view_typed}
use Rattle.wp_words.specs.CommandView.{view_wanted}
use Rattle.file_reports.specs.View.{view_page}
use Rattle.file_reports.proofs.Found.{if_both}
use Rattle.file_reports.proofs.Putting.{whole_report}
use Rattle.file_reports.proofs.reports.report_of.Goals as goal

pub returns : goal.returns
returns c kinds closed =
    let setting = view_setting c.args.judge.order.now.setting in
    let t = view_typed c.args.typed.now in
    let gs = file_goals_by setting t (view_checked_program c.args.program.now) (texts_by (view_table c.args.table.now) c.args.judge.order.now) c.args.file.now kinds in
    if_both c.finished.result
    (λ made is all. whole_report setting (view_wanted c.args.judge.wanted) t c.args.file.now (from_lines (view_program c.args.spelled.now)) gs (view_page c.in_ok-page.page) (view_page c.put_bodies.new.page) made.text made.all_proved
    c.in_ok-page.ensures (c.in_ok-put_bodies.ensures kinds closed) is all)
    c.finished.ensures.text c.finished.ensures.all
