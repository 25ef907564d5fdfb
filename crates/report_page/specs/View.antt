-- What is in memory, as plain values.
use Rattle.std.specs.Prelude.{ℕ, List}
use Rattle.std.specs.Borrow.{Bor}
use Rattle.std.specs.Fmt.{decimal}
use Rattle.report_page.specs.declared.markup.Text.{Text}
use Rattle.report_page.specs.declared.markup.Text.TheVariants as held
use Rattle.report_page.specs.Markup.{Piece}

abbrev pub view_text : Text → List ℕ
view_text (held.Bytes bytes) = bytes.now
view_text (held.Number n) = decimal n

abbrev pub view_piece : Bor (List ℕ) × Text → Piece
view_piece p = (p.0.now, view_text p.1)
