-- Expressions over the terms in the slots of a state: what is written for them, and a reading that has these terms for the leaves.
use Rattle.std.specs.Prelude.{◌≡◌, ℕ, zero, Bool, true, false, ℤ, pos, negsuc, List, [], Option, Some, None, length, slice_get, slice_index_or}
use Rattle.wp_base.specs.declared.kinds.Kind.{Kind}
use Rattle.wp_base.specs.declared.kinds.Kind.TheVariants as kind
use Rattle.wp_base.specs.declared.kinds.CellKind.{CellKind}
use Rattle.wp_base.specs.declared.kinds.CellKind.TheVariants as cell
use Rattle.typed_prog.specs.declared.operators.Variable.{Variable}
use Rattle.typed_prog.specs.declared.operators.Variable.TheVariants as variables
use Rattle.qed_terms.specs.Tree.{Tree, num}
use Rattle.walk_steps.specs.State.{at_or}
use Rattle.c_runs.specs.Program as program
use Rattle.c_runs.specs.Program.{Facts}
use Rattle.c_runs.specs.Checks.{here}
use Rattle.value_terms.specs.Readings.{Term, as_number, as_test, as_pointer, Reading}
use Rattle.value_terms.specs.Words.{Item, asked, known}
use Rattle.memory_steps.specs.Forms.{Slots}
use Rattle.memory_words.specs.Places.{Place, value, offset, flag, temporary, temporary_offset, numbers, blocks, offsets, Sizes, slot}
use Rattle.memory_words.specs.Leaves.{as_integer, as_memory, as_table, terms_in, tables_in, fill}
use Rattle.memory_words.specs.Shapes.{Shape, sizes, kind_of}
use Rattle.memory_words.specs.Readings.{term_of_kind, reading_at}

-- ---- what is written

abbrev pub fill_term : List Slots → Term → Term
fill_term ss (as_number t) = as_number (fill ss t)
fill_term ss (as_test f) = as_test (fill ss f)
fill_term ss (as_pointer b o) = as_pointer (fill ss b) (fill ss o)

-- of a check its kind and its line are kept, and not the way to it
abbrev pub fill_item : List Slots → Item → Item
fill_item ss (asked c f) = asked (here c.kind c.line) (fill ss f)
fill_item ss (known f) = known (fill ss f)

-- ---- the function, as far as expressions read it

-- the kind of a temporary; one that isn't there counts as an `int`
abbrev pub kind_at : List CellKind → ℕ → CellKind
kind_at ks n = slice_index_or ks n (cell.Of kind.Int)

abbrev pub shape_of : List program.Variable → (kinds : List CellKind) → Shape
shape_of xs ks = record { variables = xs; temporaries = length ks; temp_kind = kind_at ks; result = None }

-- its expressions over leaves, which cells a file has not being asked
abbrev pub leaf_reading : Facts → Shape → (level : ℕ) → Reading
leaf_reading p s l = reading_at p s (record { has_blocks = false; has_kind = λ k. false }) l

-- ---- the slots' own terms

-- those of a level, and its table
pub record IsLevel (ss : List Slots) (level : ℕ) (ts : List Tree) (table : Tree) : Type 0 where
  pub terms : at_or [] (terms_in ss) level ≡ ts
  pub table_is : at_or (num (pos 0)) (tables_in ss) level ≡ table

abbrev pub integer_at : Sizes → List Tree → Place → Tree
integer_at z ts a = as_integer (at_or (num (pos 0)) ts (slot z a))

abbrev pub memory_at : Sizes → List Tree → Place → Tree
memory_at z ts a = as_memory (at_or (num (pos 0)) ts (slot z a))

abbrev pub two_at : Sizes → List Tree → CellKind → (first second : Place) → Term
two_at z ts k a b = term_of_kind k (integer_at z ts a) (integer_at z ts b)

abbrev pub variable_at : Sizes → List Tree → Variable → Option program.Variable → Term
variable_at z ts x (Some v) = two_at z ts (kind_of v) (value x) (offset x)
variable_at z ts x None = as_number (num (pos 0))

unfoldable pub slot_reading : Facts → Shape → List Tree → (table : Tree) → Reading
slot_reading p s ts t = record {
  locals = λ x. variable_at (sizes p s) ts (variables.Local x) (slice_get s.variables x);
  globals = λ x. variable_at (sizes p s) ts (variables.Global x) (slice_get p.globals x);
  temporaries = λ n. two_at (sizes p s) ts (s.temp_kind n) (temporary n) (temporary_offset n);
  flags = λ x. integer_at (sizes p s) ts (flag (variables.Local x));
  homes = λ x. integer_at (sizes p s) ts (value (variables.Local x));
  table = as_table t;
  numbers = λ k. memory_at (sizes p s) ts (numbers k);
  blocks = memory_at (sizes p s) ts blocks;
  offsets = memory_at (sizes p s) ts offsets;
}

-- ---- kinds and divisors

abbrev pub is_bool : Kind → Bool
is_bool kind.Bool = true
is_bool k = false

-- -1 as spelled
abbrev pub is_minus_one : Option ℤ → Bool
is_minus_one (Some (negsuc zero)) = true
is_minus_one _ = false
