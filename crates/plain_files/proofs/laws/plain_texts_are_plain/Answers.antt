use Rattle.plain_files.proofs.Whole.{plain_texts_are_plain}
use Rattle.plain_files.proofs.laws.plain_texts_are_plain.Goals as goal

pub returns : goal.returns
returns c = plain_texts_are_plain
