-- The formulas worked by hand, computed.
use Rattle.std.proofs.Common.{refl}
use Rattle.qed_terms.specs.Memory.{load}
use Rattle.memory_words.specs.Places.{slot, places}
use Rattle.memory_words.specs.Leaves.{leaf_name}
use Rattle.memory_words.specs.SlotExamples.{WorkedForms}

pub forms_worked_by_hand : WorkedForms
unfolding slot places leaf_name load
forms_worked_by_hand = record { written = refl; so = refl; not_so = refl; fact_written = refl; fact_so = refl; fact_not_so = refl; unbound = refl }
