use Rattle.std.proofs.Common.{ap, ◌∙◌}
use Rattle.goal_words.specs.Kinds.{row_of}
use Rattle.goal_text.proofs.Naming.{form_rows}
use Rattle.goal_text.proofs.words.form_word.Goals as goal

pub returns : goal.returns
returns c = c.row_of.ensures ∙ ap (λ rows. row_of rows c.args.word.now) form_rows
