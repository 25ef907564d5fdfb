use Rattle.report_page.proofs.Pieces.{then_one}
use Rattle.report_page.proofs.Counts.{counts_are}
use Rattle.report_page.proofs.table.put_counts.Goals as goal

pub returns : goal.returns
returns c =
    then_one c.put_numbers.result _ _ _ _ (counts_are c.args.goals.now c.proved_in.result c.unknown_in.result c.proved_in.ensures.value c.unknown_in.ensures) c.put_numbers.ensures
