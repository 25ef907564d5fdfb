use Rattle.std.proofs.Common.{sym}
use Rattle.report_page.proofs.Parts.{no_run}
use Rattle.report_page.proofs.table.put_run.Goals as goal

pub returns-in-None : goal.returns-in-None
returns-in-None c =
    no_run c.args.run.now _ (sym c.in-None.ensures.value)
