use Rattle.std.proofs.Common.{◌++◌, map, ◌∙◌, ap}
use Rattle.report_read.specs.View.{bytes_of, view_report}
use Rattle.report_shown.specs.Source.{by_line, elsewhere}
use Rattle.report_shown.specs.View.{view_goals, view_list}
use Rattle.report_read.specs.Bytes.{joined}
use Rattle.view_text.specs.Text.{source_text, missing_text}
use Rattle.view_text.proofs.Whole.{view_put}
use Rattle.view_text.proofs.view.put_view.Goals as goal

pub returns : goal.returns
returns c =
    view_put c.args.color c.args.source.now (view_report c.args.report.now) (view_goals c.args.shown.now)
    c.in_ok-lines.lines.items (map view_list c.in_ok-placed.placed.items) (view_goals c.in_ok-others.others.items) _ _ _ _ _
    c.in_ok-lines.ensures (c.in_ok-placed.ensures ∙ ap (λ k. by_line 1 k (view_goals c.args.shown.now)) (c.len.ensures ∙ c.in_ok-lines.lines.ok.0))
    (c.in_ok-others.ensures ∙ ap (λ k. elsewhere k (view_goals c.args.shown.now)) (c.len-2.ensures ∙ c.in_ok-lines.lines.ok.0))
    (c.in_ok-put_source.ensures ∙ (λ j. c.args.text.now.items ++ source_text c.args.color 1 (map bytes_of (c.as_slice.ensures.value j)) (map view_list (c.as_slice-2.ensures.value j))))
    (c.in_ok-put_elsewhere.ensures ∙ ap (λ gs. c.put_source.new.text.items ++ joined (map (missing_text c.args.color) (view_goals gs))) c.as_slice-3.ensures.value)
    c.in_ok-put_notes.ensures c.in_ok-put_table.ensures
