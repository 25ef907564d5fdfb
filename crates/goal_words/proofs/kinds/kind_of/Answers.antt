use Rattle.std.proofs.Common.{ap, ◌∙◌}
use Rattle.goal_words.specs.Kinds.{row_of}
use Rattle.goal_words.proofs.Naming.{kind_rows}
use Rattle.goal_words.proofs.kinds.kind_of.Goals as goal

pub returns : goal.returns
returns c = c.row_of.ensures ∙ ap (λ rows. row_of rows c.args.word.now) kind_rows
