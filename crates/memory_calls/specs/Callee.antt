-- How a function that is called sees the slots of its caller (ACSL 2.3.1): the file's variables, memories and table by theirs, and each parameter by the terms
-- of its argument.
use Rattle.std.specs.Prelude.{ℕ, nat_lt, if◌then◌else◌, List, Option, Some, None, slice_get}
use Rattle.wp_base.specs.declared.kinds.CellKind.{CellKind}
use Rattle.wp_base.specs.declared.kinds.CellKind.TheVariants as cell
use Rattle.typed_prog.specs.Tree as t
use Rattle.typed_prog.specs.declared.operators.Variable.{Variable}
use Rattle.typed_prog.specs.declared.operators.Variable.TheVariants as variables
use Rattle.acsl_trees.specs.Tree as acsl
use Rattle.c_runs.specs.Program as program
use Rattle.c_runs.specs.Program.{Function, Facts}
use Rattle.c_runs.specs.Tree.{Steps}
use Rattle.value_terms.specs.Readings.{Term, number_term, block_term, offset_term, term_at}
use Rattle.value_terms.specs.Terms.{terms_of}
use Rattle.acsl_encode.specs.Readings as annotation
use Rattle.acsl_encode.specs.Readings.{Slot, whole, pointer, absent, Seen, nothing}
use Rattle.memory_words.specs.Places.{answer, answer_offset}
use Rattle.memory_words.specs.Shapes.{FileCells, Shape, kind_of}
use Rattle.memory_words.specs.Readings.{Texts, reading_at, leaf, global_slot, seen_by, common_of, terms_of_kind}

module _ (p : Facts) (s : Shape) (cells : FileCells) where
  -- the terms of operands in the state of a level
  abbrev pub terms_at : (level : ℕ) → t.Values → List Term
  terms_at l es = terms_of p s.variables (reading_at p s cells l) es

-- what stands for a value of the kind
abbrev pub argument_slot : CellKind → Term → Slot
argument_slot (cell.Of k) t = whole k (number_term t)
argument_slot cell.Ptr t = pointer (block_term t) (offset_term t)

-- the function that is called, with these arguments
module _ (p : Facts) (s : Shape) (cells : FileCells) (texts : Texts) (g : Function Steps) (es : t.Values) where
  abbrev pub argument : (level x : ℕ) → Term
  argument l x = term_at (terms_at p s cells l es) x

  abbrev pub param_slot : (level x : ℕ) → Option program.Variable → Slot
  param_slot l x (Some v) = argument_slot (kind_of v) (argument l x)
  param_slot l x None = absent

  -- the variables of the file in the state of one level, and the arguments in that of another one; no other variable of the function is seen
  abbrev pub callee_slot : (of_file of_call : ℕ) → Variable → Slot
  callee_slot f l (variables.Global x) = global_slot p s cells f x (slice_get p.globals x)
  callee_slot f l (variables.Local x) = if nat_lt x g.params then param_slot l x (slice_get g.variables x) else absent

  abbrev pub callee_seen : (of_file of_call : ℕ) → Seen
  callee_seen f l = seen_by p s cells f (callee_slot f l)

  -- where it is entered, in the state of this level
  abbrev pub entered_at : (level : ℕ) → acsl.Tree → annotation.Reading
  entered_at l a = record {
    here = callee_seen l l;
    pre = callee_seen l l;
    post = callee_seen l l;
    loop_entry = callee_seen l l;
    result = nothing;
    common = common_of p s cells texts a;
    called = texts.called;
  }

  -- where it has returned, in the present state; it was entered in the last one that is remembered
  abbrev pub returned_from : acsl.Tree → annotation.Reading
  returned_from a = record {
    here = callee_seen 0 1;
    pre = callee_seen 1 1;
    post = callee_seen 0 1;
    loop_entry = callee_seen 1 1;
    result = terms_of_kind g.result (leaf p s cells 0 answer) (leaf p s cells 0 answer_offset);
    common = common_of p s cells texts a;
    called = texts.called;
  }
