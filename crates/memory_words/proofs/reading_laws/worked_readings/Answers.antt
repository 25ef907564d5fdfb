use Rattle.memory_words.proofs.ReadingWorked.{worked_readings}
use Rattle.memory_words.proofs.reading_laws.worked_readings.Goals as goal

pub returns : goal.returns
returns c = worked_readings
