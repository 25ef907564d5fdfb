use Rattle.report_shown.specs.View.{view_run}
use Rattle.report_page.specs.Page.{run_pieces}
use Rattle.report_page.proofs.Pieces.{each_more, each_end}
use Rattle.report_page.proofs.table.put_runs.Goals as goal

pub loop-run-preserved : goal.loop-run-preserved
loop-run-preserved c =
    each_more run_pieces view_run c.args.runs.now c.loop-run.run-index _ _ _ _ c.loop-run-test.true c.in_ok-put_run.ensures c.loop-run.invariant

pub returns : goal.returns
returns c = each_end run_pieces view_run c.args.runs.now c.loop-run.run-index _ _ c.loop-run-test.false c.loop-run.invariant
