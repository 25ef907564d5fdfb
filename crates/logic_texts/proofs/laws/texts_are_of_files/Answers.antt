use Rattle.logic_texts.proofs.Texts_by.{texts_are_of_files}
use Rattle.logic_texts.proofs.laws.texts_are_of_files.Goals as goal

pub returns : goal.returns
returns c = texts_are_of_files
