use Rattle.value_terms.proofs.Existing.{worlds_have_readings}
use Rattle.value_terms.proofs.laws.worlds_have_readings.Goals as goal

pub returns : goal.returns
returns c = worlds_have_readings
