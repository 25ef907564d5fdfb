use Rattle.std.proofs.Common.{◌∙◌}
use Rattle.report_page.proofs.Pieces.{then_four}
use Rattle.report_page.proofs.Parts.{row_is}
use Rattle.report_page.proofs.table.put_row.Goals as goal

pub returns : goal.returns
returns c =
    then_four c.put_piece-2.result _ _ _ _ _ _ _ _ _ _ c.in_ok-put_piece.ensures c.in_ok-put_link.ensures c.in_ok-put_counts.ensures (row_is _ _ _ _ (c.as_slice.ensures.value ∙ c.in_ok-tag.ensures)) c.put_piece-2.ensures
