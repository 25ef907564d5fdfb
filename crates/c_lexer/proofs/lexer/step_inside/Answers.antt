use Rattle.std.proofs.Common.{sym, ◌∙◌, true}
use Rattle.std.proofs.lemmas.Result.{IfOk-weaker}
use Rattle.c_lexer.specs.declared.piece.Piece.TheVariants as piece
use Rattle.c_lexer.proofs.Cut.{never_annot}
use Rattle.c_lexer.proofs.Items.{fits, skip_bound, token_bound, skip_steps, stepped}
use Rattle.c_lexer.proofs.lexer.step_inside.Goals as goal

pub skip-requires-clause-within : goal.skip-requires-clause-within
skip-requires-clause-within c = (fits true c.args.fresh c.args.bytes.now _ (piece.Skip c.in-Skip.len) c.requires.some c.in-Skip.is c.in_ok-len.ensures).1

pub token-requires-clause-within : goal.token-requires-clause-within
token-requires-clause-within c = (fits true c.args.fresh c.args.bytes.now _ (piece.Token c.in-Token.kind c.in-Token.len) c.requires.some c.in-Token.is c.in_ok-len.ensures).1

pub returns-in-Skip-clause-bound : goal.returns-in-Skip-clause-bound
returns-in-Skip-clause-bound c =
    let within = fits true c.args.fresh c.args.bytes.now _ (piece.Skip c.in-Skip.len) c.requires.some c.in-Skip.is c.in_ok-len.ensures in
    skip_bound c.args.line c.args.fresh c.in-Skip.len c.args.bytes.now c.skip.result within c.skip.ensures

pub returns-in-Skip-clause-items : goal.returns-in-Skip-clause-items
returns-in-Skip-clause-items c =
    skip_steps true c.args.tokens.now c.args.line c.args.fresh c.in-Skip.len c.args.bytes.now c.skip.result c.requires.some (sym c.in-Skip.is ∙ c.in_ok-len.ensures) c.skip.ensures

pub returns-in-Token-clause-bound : goal.returns-in-Token-clause-bound
returns-in-Token-clause-bound c =
    let within = fits true c.args.fresh c.args.bytes.now _ (piece.Token c.in-Token.kind c.in-Token.len) c.requires.some c.in-Token.is c.in_ok-len.ensures in
    IfOk-weaker c.token.result _ _ (λ place e. token_bound c.args.line c.in-Token.len c.args.bytes.now place within e) c.token.ensures.place

pub returns-in-Token-clause-items : goal.returns-in-Token-clause-items
returns-in-Token-clause-items c =
    stepped true c.args.tokens.now c.token.new.tokens c.args.line c.args.fresh c.args.bytes.now (piece.Token c.in-Token.kind c.in-Token.len) c.token.result c.requires.some (sym c.in-Token.is ∙ c.in_ok-len.ensures) (c.token.ensures.items true)

pub returns-in-Annot-clause-items : goal.returns-in-Annot-clause-items
returns-in-Annot-clause-items c more = absurd (never_annot c.args.fresh c.args.bytes.now c.in-Annot.field-0 c.in-Annot.field-1 (sym c.in-Annot.is ∙ c.in_ok-len.ensures))
