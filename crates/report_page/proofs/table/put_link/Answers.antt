use Rattle.std.proofs.Common.{◌∙◌}
use Rattle.report_page.proofs.Pieces.{then_three}
use Rattle.report_page.proofs.Parts.{link_is}
use Rattle.report_page.proofs.table.put_link.Goals as goal

pub returns : goal.returns
returns c =
    then_three c.put_piece-3.result _ _ _ _ _ _ _ _ c.in_ok-put_piece.ensures c.in_ok-put_piece-2.ensures (link_is _ _ c.args.line (c.as_slice.ensures.value ∙ c.in_ok-tag.ensures)) c.put_piece-3.ensures
