use Rattle.std.proofs.Common.{ap, ◌∙◌}
use Rattle.c_lexer.specs.Tables.{meaning_of}
use Rattle.c_lexer.proofs.Alike.{word_rows}
use Rattle.c_lexer.proofs.rows.word_of.Goals as goal

pub returns : goal.returns
returns c = c.word_in.ensures ∙ ap (λ rows. meaning_of rows c.args.annotated c.args.bytes.now) word_rows
