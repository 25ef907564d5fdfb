use Rattle.std.proofs.Common.{refl}
use Rattle.report_page.proofs.Pieces.{then_three}
use Rattle.report_page.specs.Page.{total_pieces}
use Rattle.report_page.proofs.table.put_total.Goals as goal

pub returns : goal.returns
unfolding total_pieces
returns c =
    then_three c.put_piece.result _ _ _ _ _ _ _ _ c.in_ok-put_pieces.ensures c.in_ok-put_counts.ensures refl c.put_piece.ensures
