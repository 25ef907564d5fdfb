-- Annotations of a function over the slots of states, by the states of their labels (ACSL 2.3.1, 2.4.3).
use Rattle.std.specs.Prelude.{ℕ, Option}
use Rattle.c_runs.specs.Program.{Facts}
use Rattle.plain_states.specs.Slots.{result_slot}
use Rattle.plain_runs.specs.Fitting.{Shape, sizes}
use Rattle.walk_steps.specs.Forms.{Slots}
use Rattle.acsl_encode.specs.Readings.{Seen, Reading, Called, nothing}
use Rattle.acsl_encode.specs.Binders.{Spelled}
use Rattle.annotation_words.specs.Seen.{in_slots, seen_over, common_with, result_in}
use Rattle.program_steps.specs.Terms.{kind_given}

module _ (p : Facts) (s : Shape) (called : (number : ℕ) → Option Called) (names : Spelled) where
  -- the variables of the file are those of the first state, those of the function those of the second one
  abbrev pub slots_seen : (of_file of_function : Slots) → Seen
  slots_seen g l = seen_over p g (in_slots p s.variables l)

  abbrev pub body_over : (here entry loop_entry : Slots) → Reading
  body_over h e g = record {
    here = slots_seen h h;
    pre = slots_seen e e;
    post = slots_seen h h;
    loop_entry = slots_seen g g;
    result = nothing;
    common = common_with p names;
    called = called;
  }

  -- where the function returns: parameters have their values at entry
  abbrev pub return_over : (here entry : Slots) → Reading
  return_over h e = record {
    here = slots_seen h e;
    pre = slots_seen e e;
    post = slots_seen h e;
    loop_entry = slots_seen e e;
    result = result_in (kind_given s.result) h (result_slot (sizes p s));
    common = common_with p names;
    called = called;
  }
