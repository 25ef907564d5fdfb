use Rattle.plain_files.proofs.Whole.{plain_texts_fit}
use Rattle.plain_files.proofs.laws.plain_texts_fit.Goals as goal

pub returns : goal.returns
returns c = plain_texts_fit
