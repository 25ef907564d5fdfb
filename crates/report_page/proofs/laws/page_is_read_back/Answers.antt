use Rattle.report_page.proofs.Shown.{read_back}
use Rattle.report_page.proofs.laws.page_is_read_back.Goals as goal

pub returns : goal.returns
returns c = read_back
