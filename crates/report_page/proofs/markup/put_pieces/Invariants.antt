use Rattle.std.proofs.Common.{◌≡◌, ◌++◌, map, drop}
use Rattle.report_page.specs.Markup.{texts}
use Rattle.report_page.specs.View.{view_piece}
use Rattle.report_page.proofs.markup.put_pieces.Given as goal

abbrev pub invariant-loop-piece : goal.invariant-loop-piece
invariant-loop-piece l = l.page.items ++ texts (map view_piece (drop l.piece-index l.pieces)) ≡ l.initial.page.items ++ texts (map view_piece l.pieces)
