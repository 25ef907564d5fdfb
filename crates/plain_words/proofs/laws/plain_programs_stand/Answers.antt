use Rattle.plain_words.proofs.Whole.{plain_programs_stand}
use Rattle.plain_words.proofs.laws.plain_programs_stand.Goals as goal

pub returns : goal.returns
returns c = plain_programs_stand
