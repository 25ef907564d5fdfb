use Rattle.report_page.proofs.Pieces.{then_one}
use Rattle.report_page.proofs.Parts.{head_is}
use Rattle.report_page.proofs.whole.put_head.Goals as goal

pub returns : goal.returns
returns c =
    then_one c.put_pieces.result _ _ _ _ (head_is c.args.title.now _ c.style.ensures) c.put_pieces.ensures
