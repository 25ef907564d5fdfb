use Rattle.std.proofs.Common.{ap, ◌∙◌}
use Rattle.c_lexer.specs.Scan.{first_row}
use Rattle.c_lexer.proofs.Alike.{punctuator_rows}
use Rattle.c_lexer.proofs.rows.punctuator_at.Goals as goal

pub returns-clause-value : goal.returns-clause-value
returns-clause-value c = c.first_at.ensures.value ∙ ap (λ rows. first_row rows c.args.annotated c.args.bytes.now) punctuator_rows
