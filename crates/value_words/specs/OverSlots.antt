-- Expressions over the terms in the slots of a walk: what is written for them, and a reading that has these terms for the leaves.
use Rattle.std.specs.Prelude.{ℕ, zero, Bool, true, false, ℤ, pos, negsuc, List, Option, Some, None}
use Rattle.wp_base.specs.declared.kinds.Kind.{Kind}
use Rattle.wp_base.specs.declared.kinds.Kind.TheVariants as kind
use Rattle.qed_terms.specs.Tree.{Tree, num}
use Rattle.walk_steps.specs.Forms.{Slots}
use Rattle.c_runs.specs.Program.{Facts, Variable}
use Rattle.c_runs.specs.Checks.{here}
use Rattle.plain_states.specs.Slots.{Sizes, sizes_of, at_or, value_slot, local_value, local_flag, temp_slot}
use Rattle.plain_runs.specs.Fitting.{Shape}
use Rattle.value_terms.specs.Readings.{Term, as_number, as_test, as_pointer, Reading}
use Rattle.value_terms.specs.Words.{Item, asked, known}
use Rattle.program_steps.specs.Leaves.{as_integer, fill}
use Rattle.program_steps.specs.Terms.{unused, unused_table, unused_memory, reading}

-- ---- what is written

abbrev pub fill_term : List Slots → Term → Term
fill_term ss (as_number t) = as_number (fill ss t)
fill_term ss (as_test f) = as_test (fill ss f)
fill_term ss (as_pointer b o) = as_pointer (fill ss b) (fill ss o)

-- of a check its kind and its line are kept, and not the way to it
abbrev pub fill_item : List Slots → Item → Item
fill_item ss (asked c f) = asked (here c.kind c.line) (fill ss f)
fill_item ss (known f) = known (fill ss f)

-- a function with these variables, as far as expressions read them
abbrev pub with_variables : List Variable → Shape
with_variables xs = record { variables = xs; temporaries = 0; temp_kind = λ n. kind.Int; result = None }

-- its expressions over leaves
abbrev pub leaf_reading : Facts → List Variable → Reading
leaf_reading p xs = reading p (with_variables xs)

-- ---- the slots' own terms

abbrev pub slot_term : Slots → ℕ → Tree
slot_term ts i = as_integer (at_or (num (pos 0)) ts i)

unfoldable pub slot_reading : Sizes → Slots → Reading
slot_reading z ts = record {
  locals = λ x. as_number (slot_term ts (local_value z x));
  globals = λ x. as_number (slot_term ts (value_slot x));
  temporaries = λ n. as_number (slot_term ts (temp_slot z n));
  flags = λ x. slot_term ts (local_flag z x);
  homes = λ x. unused;
  table = unused_table;
  numbers = λ k. unused_memory;
  blocks = unused_memory;
  offsets = unused_memory;
}

abbrev pub reading_of : Facts → List Variable → Slots → Reading
reading_of p xs ts = slot_reading (sizes_of p xs) ts

-- ---- kinds and divisors

abbrev pub is_bool : Kind → Bool
is_bool kind.Bool = true
is_bool k = false

-- -1 as spelled
abbrev pub is_minus_one : Option ℤ → Bool
is_minus_one (Some (negsuc zero)) = true
is_minus_one _ = false
