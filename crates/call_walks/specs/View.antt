-- The functions of a program in memory, and how one that is called sees the terms in its caller's slots.
use Rattle.std.specs.Prelude.{ℕ, zero, suc, List, [], ◌∷◌, ◌++◌, map, Option}
use Rattle.std.specs.Option.{option_map}
use Rattle.typed_prog.specs.Tree as t
use Rattle.acsl_trees.specs.Tree as acsl
use Rattle.qed_terms.specs.Tree.{Tree}
use Rattle.walk_steps.specs.Forms.{Slots}
use Rattle.c_runs.specs.Program.{Facts, Function, Variable}
use Rattle.c_runs.specs.Tree.{Steps}
use Rattle.program_trees.specs.Files.{at}
use Rattle.checked_trees.specs.declared.files.CheckedFunction.{CheckedFunction}
use Rattle.checked_trees.specs.View.{view_checked_function}
use Rattle.value_terms.specs.Readings.{Term, number_term, term_at}
use Rattle.value_terms.specs.Terms.{terms_of}
use Rattle.acsl_encode.specs.Readings.{Reading, Seen, nothing}
use Rattle.program_steps.specs.Terms.{Texts}
use Rattle.value_words.specs.OverSlots.{fill_term, leaf_reading}
use Rattle.annotation_words.specs.Seen.{in_arguments, seen_over, result_in, common_with}
use Rattle.wp_base.specs.declared.kinds.Kind.{Kind}

-- by their numbers
abbrev pub functions_in : List (Option CheckedFunction) → ℕ → Option (Function Steps)
functions_in fs = at (map (option_map view_checked_function) fs)

-- ---- arguments

-- the numbers of so many operands
abbrev pub numbers_to : List Term → (count : ℕ) → List Tree
numbers_to ts zero = []
numbers_to ts (suc n) = numbers_to ts n ++ number_term (term_at ts n) ∷ []

-- so many numbers of operands, over the slots of these states
abbrev pub arguments_over : Facts → List Variable → List Slots → t.Values → (count : ℕ) → List Tree
arguments_over p xs ss es n = numbers_to (map (fill_term ss) (terms_of p xs (leaf_reading p xs) es)) n

-- ---- annotations of the function

module _ (p : Facts) (texts : Texts) (xs : List Variable) where
  -- a parameter is the term of its argument
  abbrev pub callee_over : (file : Slots) → (arguments : List Tree) → Seen
  callee_over file ts = seen_over p file (in_arguments p xs ts)

  -- where it is entered
  abbrev pub entered_over : (file : Slots) → (arguments : List Tree) → acsl.Tree → Reading
  entered_over file ts a = record {
    here = callee_over file ts;
    pre = callee_over file ts;
    post = callee_over file ts;
    loop_entry = callee_over file ts;
    result = nothing;
    common = common_with p (texts.binders a);
    called = texts.called;
  }

  -- where it has returned; its result is in this slot, of a kind
  abbrev pub returned_over : (of_kind : Option Kind) → (answer : ℕ) → (now before : Slots) → (arguments : List Tree) → acsl.Tree → Reading
  returned_over k i now before ts a = record {
    here = callee_over now ts;
    pre = callee_over before ts;
    post = callee_over now ts;
    loop_entry = callee_over before ts;
    result = result_in k now i;
    common = common_with p (texts.binders a);
    called = texts.called;
  }
