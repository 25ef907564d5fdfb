use Rattle.value_terms.proofs.Places.{ways_are_meant}
use Rattle.value_terms.proofs.laws.ways_are_meant.Goals as goal

pub returns : goal.returns
returns c = ways_are_meant
