use Rattle.memory_words.proofs.slot_laws.forms_worked_by_hand.Goals as goal
use Rattle.memory_words.proofs.SlotWorked as worked

pub returns : goal.returns
returns c = worked.forms_worked_by_hand
