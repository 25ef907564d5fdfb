use Rattle.std.proofs.Common.{[], List, Option, refl, sym, subst}
use Rattle.annotation_words.specs.declared.readings.Called.{Called}
use Rattle.annotation_words.specs.View.{called_in}
use Rattle.binder_names.specs.Tables.{named_in}
use Rattle.binder_tables.specs.View.{view_table}
use Rattle.checked_trees.specs.View.{view_checked_function, view_checked_program}
use Rattle.goal_report.specs.Judging.{AreLines}
use Rattle.plain_reports.specs.Reports.{says}
use Rattle.qed_terms.specs.Setting.{world_of}
use Rattle.qed_terms.specs.View.{view_setting}
use Rattle.wp_words.specs.CommandView.{view_wanted}
use Rattle.file_reports.specs.Lines.{function_goals_by}
use Rattle.file_reports.proofs.bodies.lines_of.Goals as goal

pub returns : goal.returns
returns c k closed =
    let setting = view_setting c.args.judge.order.now.setting in
    let judged = says setting (view_wanted c.args.judge.wanted) in
    let start : AreLines judged c.args.judge.wanted.shows_goals c.args.name [] c.new.result.items 0 0 =
    record { judged = []; are = tt; text_is = c.new.ensures.items; goals_is = refl; proved_is = refl } in
    let lines = c.walk_function.new.sink in
    let said =
    (c.in_ok-walk_function.ensures
    (record { alloc = c.args.alloc; judge = c.args.judge; shows = c.args.judge.wanted.shows_goals; name = c.args.name; text = c.new.result; goals = 0; proved = 0 })
    (world_of setting) k closed (refl, refl, refl, start)).3 in
    subst
    (λ (known : List (Option Called)). AreLines judged c.args.judge.wanted.shows_goals c.args.name
    (function_goals_by setting (view_checked_program c.args.program.now) (record { binders = named_in (view_table c.args.table.now); called = called_in known }) c.args.number (view_checked_function c.args.function.now) c.args.temporaries k c.args.bases.now)
    lines.text.items lines.goals lines.proved)
    c.as_slice.ensures said
