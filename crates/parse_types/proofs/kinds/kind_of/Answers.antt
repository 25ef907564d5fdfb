use Rattle.std.proofs.Common.{ap, ◌∙◌}
use Rattle.parse_types.specs.Read.{kind_among}
use Rattle.parse_types.proofs.Words.{kind_table, kind_among_is}
use Rattle.parse_types.proofs.kinds.kind_of.Goals as goal

pub returns : goal.returns
returns c = c.kind_in.ensures ∙ ap (λ rows. kind_among rows c.args.words.now) kind_table ∙ kind_among_is c.args.words.now
