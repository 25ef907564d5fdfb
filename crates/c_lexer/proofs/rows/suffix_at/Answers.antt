use Rattle.std.proofs.Common.{ap, ◌∙◌, false}
use Rattle.c_lexer.specs.Scan.{first_row}
use Rattle.c_lexer.proofs.Alike.{suffix_rows}
use Rattle.c_lexer.proofs.rows.suffix_at.Goals as goal

pub returns-clause-value : goal.returns-clause-value
returns-clause-value c = c.first_at.ensures.value ∙ ap (λ rows. first_row rows false c.args.bytes.now) suffix_rows
