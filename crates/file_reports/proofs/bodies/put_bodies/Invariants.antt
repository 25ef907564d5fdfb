use Rattle.std.proofs.Common.{ℕ, map, take}
use Rattle.wp_base.specs.declared.kinds.Kind.{Kind}
use Rattle.qed_terms.specs.View.{view_setting}
use Rattle.checked_trees.specs.View.{view_checked_program}
use Rattle.binder_tables.specs.View.{view_table}
use Rattle.logic_texts.specs.Laws.{texts_by}
use Rattle.typed_unit.specs.View.{view_body, view_typed}
use Rattle.wp_words.specs.CommandView.{view_wanted}
use Rattle.source_goals.specs.Walked.{AllBodiesClosed, body_goals_by}
use Rattle.file_reports.specs.Lines.{FileLines}
use Rattle.file_reports.specs.View.{view_page}
use Rattle.file_reports.proofs.bodies.put_bodies.Given as goal

-- the lines of the bodies so far
abbrev pub invariant-loop-index : goal.invariant-loop-index
invariant-loop-index l =
    (kinds : (function number : ℕ) → Kind) → AllBodiesClosed (view_checked_program l.fn.program) kinds
    → FileLines (view_setting l.fn.judge.order.now.setting) (view_wanted l.fn.judge.wanted) (view_typed l.fn.typed)
    (map (body_goals_by (view_setting l.fn.judge.order.now.setting) (view_typed l.fn.typed) (view_checked_program l.fn.program) (texts_by (view_table l.fn.table) l.fn.judge.order.now) l.fn.file kinds) (map view_body (take l.index l.bodies)))
    (view_page l.initial.page) (view_page l.page)
