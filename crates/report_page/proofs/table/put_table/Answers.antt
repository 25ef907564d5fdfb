use Rattle.std.proofs.Common.{map, ap, ◌∙◌}
use Rattle.report_page.proofs.Pieces.{then_three}
use Rattle.report_page.proofs.Parts.{table_is}
use Rattle.report_shown.specs.View.{view_run}
use Rattle.report_page.proofs.table.put_table.Goals as goal

pub returns : goal.returns
returns c =
    then_three c.put_total.result _ _ _ _ _ _ _ _ c.in_ok-put_table_head.ensures c.in_ok-put_runs.ensures (table_is _ _ (ap (map view_run) c.as_slice.ensures.value ∙ c.in_ok-runs.ensures)) c.put_total.ensures
