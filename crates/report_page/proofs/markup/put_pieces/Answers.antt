use Rattle.report_page.specs.View.{view_piece}
use Rattle.report_page.proofs.Pieces.{all_more, all_end}
use Rattle.report_page.proofs.markup.put_pieces.Goals as goal

pub loop-piece-preserved : goal.loop-piece-preserved
loop-piece-preserved c =
    all_more view_piece c.args.pieces.now c.loop-piece.piece-index _ _ _ _ c.loop-piece-test.true c.in_ok-put_piece.ensures c.loop-piece.invariant

pub returns : goal.returns
returns c = all_end view_piece c.args.pieces.now c.loop-piece.piece-index _ _ c.loop-piece-test.false c.loop-piece.invariant
