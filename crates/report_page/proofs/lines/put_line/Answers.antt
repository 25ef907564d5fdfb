use Rattle.std.proofs.Common.{◌∙◌}
use Rattle.report_page.proofs.Pieces.{then_three}
use Rattle.report_page.proofs.Parts.{line_is}
use Rattle.report_page.proofs.lines.put_line.Goals as goal

pub returns : goal.returns
returns c =
    then_three c.put_folded.result _ _ _ _ _ _ _ _ c.in_ok-put_piece.ensures c.in_ok-put_cells.ensures (line_is _ _ _ _ (c.as_slice.ensures.value ∙ c.in_ok-tag.ensures)) c.put_folded.ensures
