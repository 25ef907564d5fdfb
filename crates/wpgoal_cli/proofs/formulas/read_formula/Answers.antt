use Rattle.std.proofs.Common.{◌∙◌}
use Rattle.wpgoal_cli.proofs.Texts.{text_read, none_read}
use Rattle.wpgoal_cli.proofs.formulas.read_formula.Goals as goal

pub returns-in-Ok-clause-read : goal.returns-in-Ok-clause-read
returns-in-Ok-clause-read c = text_read c.in-Ok.goal c.args.line.now _ c.in-Ok.ensures.well_formed c.in-Ok.ensures.text (c.as_slice.ensures.value ∙ c.in_ok-text.ensures)

pub returns-clause-none : goal.returns-clause-none
returns-clause-none c e = none_read c.in-Err.end c.args.line.now _ (c.as_slice.ensures.value ∙ c.in_ok-text.ensures) c.in-Err.ensures.only e
