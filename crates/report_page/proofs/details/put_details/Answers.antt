use Rattle.report_page.proofs.Pieces.{then_three}
use Rattle.report_page.proofs.Counts.{details_are}
use Rattle.report_page.proofs.details.put_details.Goals as goal

pub returns : goal.returns
returns c =
    then_three c.put_details_end.result _ _ _ _ _ _ _ _ c.in_ok-put_summary.ensures c.in_ok-put_rows.ensures (details_are c.args.goals.now c.unknown_in.result c.unknown_in.ensures) c.put_details_end.ensures
