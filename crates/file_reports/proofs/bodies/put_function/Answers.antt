use Rattle.std.proofs.Common.{ℕ, ap, sym, subst, ◌∙◌}
use Rattle.std.specs.Prelude.{slice_get}
use Rattle.binder_tables.specs.View.{view_table}
use Rattle.checked_trees.specs.View.{view_checked_function, view_checked_program, view_steps}
use Rattle.logic_texts.specs.Laws.{texts_by}
use Rattle.goal_report.specs.Judging.{AreLines}
use Rattle.plain_reports.specs.Reports.{name_or_none, says}
use Rattle.plain_runs.specs.Fitting.{shape_of}
use Rattle.plain_words.specs.Temporaries.{temporaries_in}
use Rattle.qed_terms.specs.View.{view_setting}
use Rattle.typed_unit.specs.View.{view_typed}
use Rattle.walk_frames.specs.Words.{StepsClosed}
use Rattle.wp_words.specs.CommandView.{view_wanted}
use Rattle.file_reports.specs.Lines.{function_goals_by}
use Rattle.file_reports.specs.View.{view_page}
use Rattle.file_reports.proofs.Found.{if_all}
use Rattle.file_reports.proofs.Walked.{put_behind}
use Rattle.file_reports.proofs.bodies.put_function.Goals as goal

pub returns : goal.returns
returns c k closed =
    let setting = view_setting c.args.judge.order.now.setting in
    let t = view_typed c.args.typed.now in
    let wanted = view_wanted c.args.judge.wanted in
    let q = view_checked_program c.args.program.now in
    let f = view_checked_function c.args.function.now in
    let texts = texts_by (view_table c.args.table.now) c.args.judge.order.now in
    let n = c.args.number in
    let count = c.temporaries_in-temporaries.ensures ∙ ap (λ ss. temporaries_in (view_steps ss)) c.as_slice-2.ensures in
    let named = c.in_ok-name.ensures ∙ ap (λ fs. name_or_none (slice_get fs n)) c.as_slice.ensures in
    let open_ = subst (λ (m : ℕ). StepsClosed q.facts (shape_of f m k) f.body) (sym count) closed in
    let lines =
    subst (λ (m : ℕ). AreLines (says setting wanted) wanted.shows c.in_ok-name.name (function_goals_by setting q texts n f m k c.args.bases.now) c.in_ok-lines.lines.text.items c.in_ok-lines.lines.goals c.in_ok-lines.lines.proved) count
    (c.in_ok-lines.ensures k open_) in
    if_all c.put_lines.result
    (λ a b d. put_behind setting wanted t n (function_goals_by setting q texts n f (temporaries_in f.body) k c.args.bases.now) c.in_ok-name.name c.in_ok-lines.lines.text.items c.in_ok-lines.lines.goals c.in_ok-lines.lines.proved
    (view_page c.args.page.now) (view_page c.put_lines.new.page) named lines a b d)
    c.put_lines.ensures.text c.put_lines.ensures.goals c.put_lines.ensures.proved
