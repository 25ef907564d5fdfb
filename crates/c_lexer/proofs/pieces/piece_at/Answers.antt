use Rattle.std.proofs.Common.{sym, ap, ◌∙◌}
use Rattle.std.proofs.lemmas.List.{take_rest}
use Rattle.c_lexer.specs.declared.piece.Piece.TheVariants as piece
use Rattle.c_lexer.proofs.Cut.{piece_line}
use Rattle.c_lexer.proofs.pieces.piece_at.Goals as goal

pub returns-then-opens : goal.returns-then-opens
returns-then-opens c =
    ap (λ n. piece.Annot n 0) (rw take_rest at c.rest_of_line.ensures.value)
    ∙ sym (piece_line c.args.annotated c.args.fresh c.args.bytes.now (sym c.begins_blank.ensures ∙ c.if-begins_blank.false) (sym c.opens.ensures.value ∙ c.if-opens.true))
