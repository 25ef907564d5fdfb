-- How a function that is called sees the slots of its caller (ACSL 2.3.1): the variables of the file by theirs, and each parameter by the term of its argument.
use Rattle.std.specs.Prelude.{ℕ, List, Option, Some, None, slice_get}
use Rattle.typed_prog.specs.Tree as t
use Rattle.typed_prog.specs.declared.operators.Variable.{Variable}
use Rattle.typed_prog.specs.declared.operators.Variable.TheVariants as variables
use Rattle.acsl_trees.specs.Tree as acsl
use Rattle.qed_terms.specs.Tree.{Tree}
use Rattle.c_runs.specs.Program as program
use Rattle.c_runs.specs.Program.{Function, Facts}
use Rattle.c_runs.specs.Tree.{Steps}
use Rattle.plain_states.specs.Slots.{value_slot, local_value, local_flag, answer_slot, temp_slot}
use Rattle.plain_states.specs.Scopes.{kind_of}
use Rattle.plain_runs.specs.Fitting.{Shape, sizes}
use Rattle.value_terms.specs.Readings.{Reading, Term, as_number, number_term, term_at}
use Rattle.value_terms.specs.Terms.{terms_of}
use Rattle.acsl_encode.specs.Readings as annotation
use Rattle.acsl_encode.specs.Readings.{Slot, whole, absent, Seen, integer, nothing}
use Rattle.program_steps.specs.Leaves.{leaf}
use Rattle.program_steps.specs.Terms.{Texts, unused, unused_table, unused_memory, global_slot, common_of, kind_given}

-- expressions of the caller, in the state of a level; in the present one this is its own reading
abbrev pub reading_at : Facts → Shape → (level : ℕ) → Reading
reading_at p s l = record {
  locals = λ x. as_number (leaf l (local_value (sizes p s) x));
  globals = λ x. as_number (leaf l (value_slot x));
  temporaries = λ n. as_number (leaf l (temp_slot (sizes p s) n));
  flags = λ x. leaf l (local_flag (sizes p s) x);
  homes = λ x. unused;
  table = unused_table;
  numbers = λ k. unused_memory;
  blocks = unused_memory;
  offsets = unused_memory;
}

-- the terms of operands in the state of a level
abbrev pub terms_at : Facts → Shape → (level : ℕ) → t.Values → List Term
terms_at p s l es = terms_of p s.variables (reading_at p s l) es

-- the function that is called, with these arguments
module _ (p : Facts) (s : Shape) (texts : Texts) (g : Function Steps) (es : t.Values) where
  abbrev pub argument : (level x : ℕ) → Tree
  argument l x = number_term (term_at (terms_at p s l es) x)

  abbrev pub param_slot : (level x : ℕ) → Option program.Variable → Slot
  param_slot l x (Some v) = whole (kind_of v) (argument l x)
  param_slot l x None = absent

  -- the variables of the file in the state of one level, and the arguments in that of another one
  abbrev pub callee_slot : (of_file of_call : ℕ) → Variable → Slot
  callee_slot f l (variables.Global x) = global_slot p s f x (slice_get p.globals x)
  callee_slot f l (variables.Local x) = param_slot l x (slice_get g.variables x)

  abbrev pub callee_seen : (of_file of_call : ℕ) → Seen
  callee_seen f l = record { variable = callee_slot f l; table = None; numbers = λ k. None; pointers = None }

  -- where it is entered, in the state of this level
  abbrev pub entered_at : (level : ℕ) → acsl.Tree → annotation.Reading
  entered_at l a = record {
    here = callee_seen l l;
    pre = callee_seen l l;
    post = callee_seen l l;
    loop_entry = callee_seen l l;
    result = nothing;
    common = common_of p s texts a;
    called = texts.called;
  }

  -- where it has returned, in the present state; it was entered in the last one that is remembered
  abbrev pub returned_from : acsl.Tree → annotation.Reading
  returned_from a = record {
    here = callee_seen 0 1;
    pre = callee_seen 1 1;
    post = callee_seen 0 1;
    loop_entry = callee_seen 1 1;
    result = integer (kind_given g.result) (leaf 0 (answer_slot (sizes p s)));
    common = common_of p s texts a;
    called = texts.called;
  }
