-- Annotations over the terms in the slots of states: those of the variables of the file come from one state, those of the function's from another one.
use Rattle.std.specs.Prelude.{ℕ, ◌+◌, Bool, true, false, ℤ, pos, negsuc, List, length, Option, Some, None, slice_get}
use Rattle.typed_prog.specs.declared.operators.Variable.{Variable}
use Rattle.typed_prog.specs.declared.operators.Variable.TheVariants as variables
use Rattle.qed_terms.specs.Tree.{Tree, num}
use Rattle.c_runs.specs.Program as program
use Rattle.c_runs.specs.Program.{Facts}
use Rattle.c_runs.specs.States.{hidden}
use Rattle.c_runs.specs.Claims.{struct_cells}
use Rattle.plain_states.specs.Slots.{value_slot}
use Rattle.plain_states.specs.Scopes.{kind_of}
use Rattle.walk_steps.specs.State.{at_or}
use Rattle.walk_steps.specs.Forms.{Slots}
use Rattle.program_steps.specs.Leaves.{as_integer}
use Rattle.program_steps.specs.Terms.{held_in}
use Rattle.acsl_encode.specs.Readings.{Slot, whole, absent, Seen, Terms, integer, Common}
use Rattle.acsl_encode.specs.Binders.{Spelled, numbered}
use Rattle.wp_base.specs.declared.kinds.Kind.{Kind}

-- ---- slots

-- what is no term for an integer counts as 0, and so does what isn't there
abbrev pub slot_term : Slots → (slot : ℕ) → Tree
slot_term ts i = as_integer (at_or (num (pos 0)) ts i)

-- an integer of the variable's kind, as a variable of the file holds it
abbrev pub of_kind : Option program.Variable → Tree → Slot
of_kind (Some v) t = whole (kind_of v) t
of_kind None t = absent

-- a variable of the function; one that is declared without a value may hold any integer until it is set
abbrev pub of_local : Option program.Variable → Tree → Slot
of_local (Some v) t = held_in v t
of_local None t = absent

-- an argument stands for itself, as an integer of the parameter's kind
abbrev pub argument : Option program.Variable → Option Tree → Slot
argument v (Some t) = of_kind v t
argument v None = absent

-- ---- states

-- what stands for the variables of the function
abbrev pub Locals : Type 0
Locals = (variable : ℕ) → Slot

module _ (p : Facts) where
  abbrev pub file_slot : Slots → (variable : ℕ) → Slot
  file_slot ts x = of_kind (slice_get p.globals x) (slot_term ts (value_slot x))

  abbrev pub in_slots : List program.Variable → Slots → Locals
  in_slots vs ts x = of_local (slice_get vs x) (slot_term ts (value_slot (length p.globals + x)))

  abbrev pub in_arguments : List program.Variable → List Tree → Locals
  in_arguments vs ts x = argument (slice_get vs x) (slice_get ts x)

  abbrev pub variable_slot : (file : Slots) → Locals → Variable → Slot
  variable_slot ts locals (variables.Global x) = file_slot ts x
  variable_slot ts locals (variables.Local x) = locals x

  abbrev pub seen_over : (file : Slots) → Locals → Seen
  seen_over ts locals = record { variable = variable_slot ts locals; table = None; numbers = λ k. None; pointers = None }

  -- ---- what all states have in common

  abbrev pub hidden_block : Variable → ℤ
  hidden_block (variables.Global x) = negsuc x
  hidden_block (variables.Local x) = hidden p x

  abbrev pub common_with : Spelled → Common
  common_with names = record {
    model = p.model;
    structs = struct_cells p;
    hidden = hidden_block;
    homes = λ n. None;
    binder = numbered names;
  }

-- something stands for it
abbrev pub is_known : Slot → Bool
is_known absent = false
is_known s = true

-- the result in a slot
abbrev pub result_in : Option Kind → Slots → (slot : ℕ) → Terms
result_in k ts i = integer k (slot_term ts i)
